use Rattle.std.proofs.Common.{◌≡◌, ◌∙◌, List, map, ap, subst, sym, ⊎_elim}
use Rattle.std.proofs.lemmas.Result.{IfErr-weaker, IfOk-weaker}
use Rattle.auditing.specs.Verdicts.{IsVerdict}
use Rattle.auditing.specs.declared.entry.Entry.{Entry}
use Rattle.auditing.specs.declared.verdict.Verdict.TheVariants.{Yes}
use Rattle.faults.specs.Bytes.{Text}
use Rattle.listing.specs.Tree.{Tree}
use Rattle.package_lists.specs.List.{AreEntries}
use Rattle.package_lists.specs.ListText.{list_text}
use Rattle.world.specs.Headline.{entry_of}
use Rattle.check_worlds.proofs.audits.audit_of_printed.Goals as goal

pub returns-clause-yes : goal.returns-clause-yes
returns-clause-yes c =
    let w = c.args.world.now.world in
    let text : Text = c.as_slice.result.now in
    let told : text ≡ list_text w.agreed = c.as_slice.ensures.value ∙ c.in_ok-text.ensures ∙ ap list_text c.agreed-list.ensures.list in
    let printed : AreEntries (list_text w.agreed) (map entry_of w.agreed) =
    c.printed_lists_are_read.ensures w.agreed c.agreed-list.ensures.records in
    let also : AreEntries text (map entry_of w.agreed) = subst (λ (t : Text). AreEntries t (map entry_of w.agreed)) (sym told) printed in
    IfOk-weaker c.audit_list.result _ _
    (λ v is. c.only_one_verdict.ensures c.args.tree.now (map entry_of w.agreed) v Yes
    (subst (λ (es : List Entry). IsVerdict c.args.tree.now es v) (c.lists_and_faults.ensures.one_list text is.entries (map entry_of w.agreed) is.are_entries also) is.is_verdict)
    (subst (λ (t : Tree). IsVerdict t (map entry_of w.agreed) Yes) c.requires c.agreed-list.ensures.allowed))
    c.audit_list.ensures.ok

pub returns-clause-memory : goal.returns-clause-memory
returns-clause-memory c =
    let w = c.args.world.now.world in
    let text : Text = c.as_slice.result.now in
    let told : text ≡ list_text w.agreed = c.as_slice.ensures.value ∙ c.in_ok-text.ensures ∙ ap list_text c.agreed-list.ensures.list in
    let printed : AreEntries (list_text w.agreed) (map entry_of w.agreed) =
    c.printed_lists_are_read.ensures w.agreed c.agreed-list.ensures.records in
    let also : AreEntries text (map entry_of w.agreed) = subst (λ (t : Text). AreEntries t (map entry_of w.agreed)) (sym told) printed in
    IfErr-weaker c.audit_list.result _ _
    (λ e why. ⊎_elim (λ memory. memory) (λ bad. absurd (c.lists_and_faults.ensures.no_fault text (map entry_of w.agreed) e also bad)) why)
    c.audit_list.ensures.refused
