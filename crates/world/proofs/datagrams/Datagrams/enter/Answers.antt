use Rattle.std.proofs.Common.{◌≡◌, ◌∙◌, List, OnOk, ap, eq-eqb, fold, length, map, subst, sym, true≢false, ℕ}
use Rattle.faults.specs.Bytes.{Text}
use Rattle.node.specs.Parcels.{texts_in}
use Rattle.world.specs.Sent.{with_datagram}
use Rattle.world.proofs.Entering.{once_for_all}
use Rattle.world.proofs.datagrams.Datagrams.enter.Goals as goal

pub returns-clause-ok : goal.returns-clause-ok
returns-clause-ok c =
    let receivers = c.parts.result.0.now in
    let texts = texts_in c.parts.result.1.now in
    let some : length receivers ≡ 0 → ⊥ = λ none. true≢false
    (sym (eq-eqb (length receivers) 0 none) ∙ sym c.is_empty.ensures ∙ c.if-is_empty.false) in
    let all = once_for_all c.args.self.now texts receivers some
    ∙ ap (λ (s : List (ℕ × Text)). fold with_datagram c.args.self.now (map (λ p. p.1) s))
    (sym c.parts.ensures) in
    subst (λ (sent : List Text). OnOk c.enter_all.result (c.enter_all.new.self ≡ sent)) all
    c.enter_all.ensures.ok
