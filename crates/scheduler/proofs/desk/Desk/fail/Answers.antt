use Rattle.std.proofs.Common.{[], ◌++◌, ◌≡◌, ◌<◌, ◌==◌, ◌∙◌, ◌∷◌, ℕ, None, Some, ap, get_or, length, position, refl, rules, subst, sym}
use Rattle.std.specs.Prelude.{if◌then◌else◌, is_some, nat_eq}
use Rattle.std.proofs.lemmas.List.Quantifiers.{position-Some}
use Rattle.engine.specs.Division.{number_found}
use Rattle.indexmap.specs.IndexMap.{insert_entry}
use Rattle.indexmap.specs.IndexSet.{contains}
use Rattle.scheduler.specs.Taking.{AreUnwritten, job_out, place_of}
use Rattle.scheduler.specs.declared.desk.Desk.{Desk}
use Rattle.scheduler.specs.declared.posted.Posted.{Posted}
use Rattle.scheduler.proofs.Moved.{none_comes, none_posted, none_presses, one_comes, one_posted, one_presses}
use Rattle.scheduler.proofs.desk.Desk.fail.Goals as goal

pub returns-in_default-place_of-clause-failed : goal.returns-in_default-place_of-clause-failed
returns-in_default-place_of-clause-failed c =
    let out = c.args.self.now.out.items in
    let unit = number_found c.args.member.now.division c.args.path.now in
    let found : unit ≡ Some c.in-Some.unit =
    sym (c.in-Some.ensures ∙ ap (λ d. number_found d c.args.path.now) c.units.ensures.division) in
    let nowhere : position (λ (p : Posted). p.unit == c.in-Some.unit) out ≡ None =
    sym (c.in_default-place_of.ensures
    ∙ ap (position (λ (p : Posted). p.unit == c.in-Some.unit)) c.as_slice.ensures.value) in
    sym (none_comes out unit c.args.self.now.failed.entries (ap (place_of out) found ∙ nowhere))

pub returns-in_default-place_of-clause-question : goal.returns-in_default-place_of-clause-question
returns-in_default-place_of-clause-question c =
    let out = c.args.self.now.out.items in
    let unit = number_found c.args.member.now.division c.args.path.now in
    let found : unit ≡ Some c.in-Some.unit =
    sym (c.in-Some.ensures ∙ ap (λ d. number_found d c.args.path.now) c.units.ensures.division) in
    let nowhere : position (λ (p : Posted). p.unit == c.in-Some.unit) out ≡ None =
    sym (c.in_default-place_of.ensures
    ∙ ap (position (λ (p : Posted). p.unit == c.in-Some.unit)) c.as_slice.ensures.value) in (
      (refl, refl, refl),
      sym (none_presses out unit c.args.self.now.pressing.items (ap (place_of out) found ∙ nowhere)),
    )

pub returns-in_default-place_of-clause-mark : goal.returns-in_default-place_of-clause-mark
returns-in_default-place_of-clause-mark c =
    let d = c.args.self.now in
    let out = d.out.items in
    let unit = number_found c.args.member.now.division c.args.path.now in
    let found : unit ≡ Some c.in-Some.unit =
    sym (c.in-Some.ensures ∙ ap (λ d. number_found d c.args.path.now) c.units.ensures.division) in
    let nowhere : position (λ (p : Posted). p.unit == c.in-Some.unit) out ≡ None =
    sym (c.in_default-place_of.ensures
    ∙ ap (position (λ (p : Posted). p.unit == c.in-Some.unit)) c.as_slice.ensures.value) in
    let placed : place_of out unit ≡ None = ap (place_of out) found ∙ nowhere in (
      subst (λ j. AreUnwritten d j None d) (sym (none_posted out unit placed)) (refl, refl),
      sym (none_presses out unit d.notices.unsent.items placed),
    )

pub returns-clause-failed : goal.returns-clause-failed
returns-clause-failed c =
    let out = c.args.self.now.out.items in
    let failed = c.args.self.now.failed.entries in
    let unit = number_found c.args.member.now.division c.args.path.now in
    let place = c.in-Some-place_of.place in
    let moved = c.remove-posted.result in
    let same = c.in_ok-reserve_failed.ensures.same in
    let found : unit ≡ Some c.in-Some.unit =
    sym (c.in-Some.ensures ∙ ap (λ d. number_found d c.args.path.now) c.units.ensures.division) in
    let stands : position (λ (p : Posted). p.unit == c.in-Some.unit) out ≡ Some place =
    sym (c.in-Some-place_of.ensures
    ∙ ap (position (λ (p : Posted). p.unit == c.in-Some.unit)) c.as_slice.ensures.value) in
    let within =
    (position-Some (λ (p : Posted). p.unit == c.in-Some.unit) out place moved stands).0 in
    let is : moved ≡ get_or out place moved =
    c.remove-posted.ensures.value ∙ ap (λ o. get_or o.items place moved) same.out in
    let comes = one_comes out unit failed place moved (ap (place_of out) found ∙ stands) within is in
    let inserted : c.insert.new.self.entries
    ≡ insert_entry nat_eq c.reserve_failed.new.self.failed.entries moved.unit moved.name =
    search rules in
    inserted ∙ (ap (λ f. insert_entry nat_eq f moved.unit moved.name) same.failed ∙ sym comes)

pub returns-clause-question : goal.returns-clause-question
returns-clause-question c =
    let out = c.args.self.now.out.items in
    let pressing = c.args.self.now.pressing.items in
    let unit = number_found c.args.member.now.division c.args.path.now in
    let place = c.in-Some-place_of.place in
    let moved = c.remove-posted.result in
    let same = c.in_ok-reserve_failed.ensures.same in
    let rest = c.in_ok-reserve_failed.ensures.rest in
    let found : unit ≡ Some c.in-Some.unit =
    sym (c.in-Some.ensures ∙ ap (λ d. number_found d c.args.path.now) c.units.ensures.division) in
    let stands : position (λ (p : Posted). p.unit == c.in-Some.unit) out ≡ Some place =
    sym (c.in-Some-place_of.ensures
    ∙ ap (position (λ (p : Posted). p.unit == c.in-Some.unit)) c.as_slice.ensures.value) in
    let within =
    (position-Some (λ (p : Posted). p.unit == c.in-Some.unit) out place moved stands).0 in
    let is : moved ≡ get_or out place moved =
    c.remove-posted.ensures.value ∙ ap (λ o. get_or o.items place moved) same.out in
    let presses = one_presses out unit pressing place moved (ap (place_of out) found ∙ stands)
    within is in
    let pushed : c.push.new.self.items
    ≡ c.reserve_failed.new.self.pressing.items ++ moved.unit ∷ [] = search rules in (
      (
        ap (λ (d : Desk). d.last) rest,
        ap (λ (d : Desk). d.next) rest,
        ap (λ (d : Desk). d.asked_at) rest,
      ),
      pushed ∙ (ap (λ us. us ++ moved.unit ∷ []) same.pressing ∙ sym presses),
    )

pub returns-clause-mark : goal.returns-clause-mark
returns-clause-mark c =
    let d = c.args.self.now in
    let out = d.out.items in
    let unsent = d.notices.unsent.items in
    let unit = number_found c.args.member.now.division c.args.path.now in
    let place = c.in-Some-place_of.place in
    let moved = c.remove-posted.result in
    let fault = c.err-fault.result in
    let same = c.in_ok-reserve_failed.ensures.same in
    let found : unit ≡ Some c.in-Some.unit =
    sym (c.in-Some.ensures ∙ ap (λ d. number_found d c.args.path.now) c.units.ensures.division) in
    let stands : position (λ (p : Posted). p.unit == c.in-Some.unit) out ≡ Some place =
    sym (c.in-Some-place_of.ensures
    ∙ ap (position (λ (p : Posted). p.unit == c.in-Some.unit)) c.as_slice.ensures.value) in
    let within =
    (position-Some (λ (p : Posted). p.unit == c.in-Some.unit) out place moved stands).0 in
    let is : moved ≡ get_or out place moved =
    c.remove-posted.ensures.value ∙ ap (λ o. get_or o.items place moved) same.out in
    let at = ap (place_of out) found ∙ stands in
    let kept : (v : ℕ) → contains nat_eq c.keep_unwritten.new.units v
    ≡ (if nat_eq moved.unit v then is_some fault else contains nat_eq d.unwritten v) =
    λ v. c.keep_unwritten.ensures v
    ∙ (ap (λ b. if nat_eq moved.unit v then b
    else contains nat_eq c.reserve_failed.new.self.unwritten v) c.is_some.ensures
    ∙ ap (λ b. if nat_eq moved.unit v then is_some fault else b) (same.unwritten v)) in
    let pushed : c.push-2.new.self.items
    ≡ c.reserve_failed.new.self.notices.unsent.items ++ moved.unit ∷ [] = search rules in (
      subst (λ j. AreUnwritten d j fault (record c.reserve_failed.new.self {
        out = c.remove-posted.new.self;
        failed = c.insert.new.self;
        unwritten = c.keep_unwritten.new.units;
        notices = record c.reserve_failed.new.self.notices { unsent = c.push-2.new.self };
        pressing = c.push.new.self;
      })) (sym (one_posted out unit place moved at within is)) kept,
      pushed ∙ (ap (λ us. us ++ moved.unit ∷ []) same.unsent
          ∙ sym (one_presses out unit unsent place moved at within is)),
    )
