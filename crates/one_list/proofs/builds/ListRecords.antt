-- The list consists of records.
use Rattle.std.proofs.Common.{◌≡◌, ◌++◌, ℕ, List, sym, ap, subst, arith, inl, inr}
use Rattle.std.specs.Prelude.{All}
use Rattle.std.specs.List.{list_any}
use Rattle.std.proofs.lemmas.Bool.{cond_both}
use Rattle.std.proofs.lemmas.List.Elements.{All-append, All-nil}
use Rattle.faults.specs.Bytes.{Text}
use Rattle.protocol.specs.Events.{Event}
use Rattle.package_record.specs.Content.{Content, IsRecord}
use Rattle.engine.specs.Division.{Division}
use Rattle.world.specs.Happening.{Happens, Leads}
use Rattle.world.specs.Headline.{AreRecords, AtEachMoment}
use Rattle.world.specs.Lists.{IsListAfter, has_path}
use Rattle.world.specs.World.{World, start}
use Rattle.world.proofs.DistinctEntries.{proposed_is_build}
use Rattle.world.proofs.Growth.{by_kind, each_moment, kept_on}

-- what is added to the list is a build that was proposed
list_of_records : (w : World) (after : List Text) (list : List Content) → IsListAfter w after list
    → AreRecords w → All IsRecord list
list_of_records w after list (inr (none, e)) are = subst (All IsRecord) (sym e) are
list_of_records w after list (inl (build, decided, e)) are = subst (All IsRecord) (sym e)
    (cond_both (list_any (λ r. has_path w.agreed r.path) build) w.agreed (w.agreed ++ build)
    (All IsRecord)
    (λ t. are)
    (λ f. All-append IsRecord w.agreed build are
    (proposed_is_build w after decided.name decided.claim build
    decided.proposed).build_is.records))

records_kept : (w v : World) (e : Event) → Happens w e v → AreRecords w → AreRecords v
records_kept = by_kind (λ w v. AreRecords w → AreRecords v)
    (λ w v e s are. list_of_records w _ v.agreed s.list are)
    (λ w v e l s are. subst (All IsRecord) (sym (ap (λ u. u.agreed) s.leaves)) are)
    (λ w v n s are. subst (All IsRecord) (sym (ap (λ u. u.agreed) s.leaves)) are)
    (λ w v n s are. subst (All IsRecord) (sym (ap (λ u. u.agreed) s.leaves)) are)

records_there : (division : Division) (weights : List ℕ) (events : List Event) (w : World)
    → Leads (start division weights) events w → AreRecords w
records_there division weights events w led =
    kept_on AreRecords records_kept (start division weights) w events led (All-nil IsRecord)

-- So it does at every point.
pub always_records : (division : Division) (weights : List ℕ) (events : List Event) (last : World)
    → Leads (start division weights) events last
    → AtEachMoment division weights events last (λ early w. AreRecords w)
always_records division weights =
    each_moment division weights (λ early w. AreRecords w) (records_there division weights)
