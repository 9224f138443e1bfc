use Rattle.std.proofs.Common.{◌≡◌, ℕ, Bor, List, [], Option, Result, Ok, Err, subst, sym, rules, drop_of_length-le}
use Rattle.std.specs.Result.{OnErr, OnOk}
use Rattle.std.proofs.KnownBytes.{Appends-kept}
use Rattle.program_io.proofs.Beginnings.{HasTaken, all_taken, begun, none_taken, taken_kept, taken_more}
use Rattle.program_io.specs.Printing.{AppendsBeginning}
use Rattle.program_io.proofs.printing.print.Goals as goal
use Rattle.program_io.proofs.printing.print.Goals.{in-Ok, in-Err, else-loop-test, then-loop-test+else-is_empty+in-Ok-eq0}

on_ok : {T E P : Type 0} (r : Result T E) → P → OnOk r P
on_ok (Ok x) p = p
on_ok (Err e) p = tt

on_err : {T E P : Type 0} (r : Result T E) → P → OnErr r P
on_err (Ok x) p = tt
on_err (Err e) p = p

pub loop-init : goal.loop-init
loop-init g c = none_taken _ _

pub returns-then-is_empty-clause-ok : goal.returns-then-is_empty-clause-ok
returns-then-is_empty-clause-ok g c =
    let rest = c.loop.rest.now in
    let empty : rest ≡ [] = drop_of_length-le rest {i = 0} (search rules) in
    on_ok c.flush.result (Appends-kept _ _ _ _ (all_taken _ _ _ rest c.loop.invariant empty) c.flush.ensures.bytes)

pub returns-then-is_empty-clause-err : goal.returns-then-is_empty-clause-err
returns-then-is_empty-clause-err g c =
    on_err c.flush.result (begun _ _ _ _ (taken_kept _ _ _ _ _ c.loop.invariant c.flush.ensures.bytes))

pub returns-in-Err-2-clause-err : goal.returns-in-Err-2-clause-err
returns-in-Err-2-clause-err g c = begun _ _ _ _ (taken_kept _ _ _ _ _ c.loop.invariant c.in-Err.ensures.bytes)

pub loop-preserved : goal.loop-preserved
loop-preserved g c =
    let left : List ℕ → Type 0 = HasTaken (g.O.Write.contents c.args.out.now) (g.O.Write.contents c.write.new.self) c.args.text.now in
    elim c.match-write.branch [
      | in-Ok w ↦ subst (λ (r : Bor (List ℕ)). left r.now) (sym w.rest-is) (taken_more _ _ _ _ _ c.loop.invariant w.in-Ok.count w.in-Ok.ensures.bytes)
      | in-Err w ↦ subst (λ (r : Bor (List ℕ)). left r.now) (sym w.rest-is) (taken_kept _ _ _ _ _ c.loop.invariant w.in-Err.ensures.bytes)
    ]

pub returns-clause-err : goal.returns-clause-err
returns-clause-err g c =
    let taken : Option (List ℕ) → Type 0 = λ now. AppendsBeginning (g.O.Write.contents c.args.out.now) now c.args.text.now in
    elim c.loop-test.branch [
      | else-loop-test w ↦ subst (λ o. taken (g.O.Write.contents o)) (sym w.out-is) (begun _ _ _ _ c.loop.invariant)
      | then-loop-test+else-is_empty+in-Ok-eq0 w ↦
          subst (λ o. taken (g.O.Write.contents o)) (sym w.out-is)
          (begun _ _ _ _ (taken_more _ _ _ _ _ c.loop.invariant w.in-Ok-eq0.field-0 (rw w.in-Ok-eq0.is at w.write.ensures.bytes)))
    ]
