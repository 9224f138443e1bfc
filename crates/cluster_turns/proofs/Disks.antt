-- Nodes that are opened over disks, one after the other.
use Rattle.std.proofs.Common.{◌≡◌, ◌≢◌, ◌<◌, ◌+◌, ◌⊎◌, ◌++◌, ℕ, zero, suc, List, [], ◌∷◌, Option, None, Some, Ok, get_or, length, slice_get, refl, sym, ap, subst, ◌∙◌, arith, inl, inr, ⊎_elim}
use Rattle.std.proofs.lemmas.Option.{slice_get_cases}
use Rattle.std.specs.List.{AllZip}
use Rattle.turn_rules.specs.declared.fault.TurnFault.{TurnFault}
use Rattle.turn_rules.specs.declared.fault.TurnFault.TheVariants as refused
use Rattle.cluster_turns.specs.Choosing.{told}
use Rattle.listing.specs.Tree.{Tree}
use Rattle.node.specs.Calls.{IsOpenFault, IsOpened}
use Rattle.node.specs.OnLog.{IsLogged, IsOnLog, identity, identity_of, texts_of}
use Rattle.node.specs.State.{LoggedNode}
use Rattle.node.specs.declared.fault.NodeFault.{NodeFault}
use Rattle.node.specs.declared.fault.NodeFault.TheVariants as fault
use Rattle.stable_record.specs.Crash.{AllAlong}
use Rattle.stable_record.specs.Faults.{HasRisen}
use Rattle.stable_record.specs.History.{seen}
use Rattle.stable_record.specs.Log.{gate_place}
use Rattle.stable_record.specs.Opening.{Opens, OpensAsLeft}
use Rattle.stable_record.specs.declared.identity.Identity.{Identity}
use Rattle.stable_record.specs.declared.log_fault.LogFault.TheVariants as log
use Rattle.cluster_turns.proofs.Openings.{has_some, is_empty, whose_is}
use Rattle.cluster_turns.specs.Starting.{IsNewFault, IsOpenedFresh, IsOpeningFault, StandsFresh}
use Rattle.cluster_turns.specs.inside.Opening.{AreFresh, IsFresh}
use Rattle.stable_record.specs.declared.disk.Disk.{Ghosts as Disk}

-- ---- one disk

module _ {D : Type 0} (disk : Disk D) (tree : Tree) (weights : List ℕ) (me : ℕ) (passed : D) where
  module _ (n : LoggedNode D) (opened : IsOpened tree weights me n.node)
      (notes : disk.is_kept n.log.disk
      → Opens (identity_of n.node.member) (seen (disk.history passed)) (Ok (texts_of n.node.notes)))
      (logged : IsLogged n) (len fresh : ℕ) (is : len ≡ n.log.end + 1)
      (at : fresh ≡ gate_place (identity tree weights me) [] + 1) where
    -- the node is fresh if its log is as long as one without notes
    pub fresh_of : (disk.is_kept n.log.disk → IsOnLog disk.history n)
        → (disk.is_kept n.log.disk
        → AllAlong (OpensAsLeft (identity_of n.node.member) (disk.history passed))
        (disk.history passed) (disk.history n.log.disk))
        → (disk.is_kept n.log.disk → disk.is_kept passed) → len ≡ fresh
        → IsFresh disk tree weights me passed n
    fresh_of on_log any_moment kept same =
        let none = is_empty tree weights me n opened logged len fresh is at same in
        record {
          opened = opened;
          empty = none;
          on_log = on_log;
          stands = record {
            kept = kept;
            fresh = λ k. subst (λ ns. Opens (identity_of n.node.member) (seen (disk.history passed))
                (Ok (texts_of ns))) none (notes k);
            any_moment = any_moment;
          };
        }

    -- otherwise its file has notes
    pub not_fresh_of : len ≢ fresh → IsOpeningFault disk tree weights me passed refused.NotFresh
    not_fresh_of other =
        let some = has_some tree weights me n opened logged len fresh is at other in (
          n.log.disk,
          some.0,
          some.1,
          λ k. subst (λ (i : Identity). Opens i (seen (disk.history passed)) (Ok (some.0 ∷ some.1)))
              (whose_is tree weights me n opened)
              (subst (λ ts. Opens (identity_of n.node.member) (seen (disk.history passed)) (Ok ts))
              some.2
              (notes k)),
        )

  -- a refusal is reported with its cause
  pub told_of : (after : D) (f : NodeFault)
      → (disk.is_kept after → IsOpenFault tree weights me (seen (disk.history passed)) f)
      → (f ≡ fault.Log log.Device → HasRisen (disk.failures_of passed) (disk.failures_of after))
      → IsOpeningFault disk tree weights me passed (told f)
  told_of after fault.Memory cause device = tt
  told_of after (fault.Refused r) cause device =
      (after, (λ e. let no : fault.Refused r ≡ fault.Memory = e in cc), cause, device)
  told_of after (fault.Log l) cause device =
      (after, (λ e. let no : fault.Log l ≡ fault.Memory = e in cc), cause, device)
  told_of after fault.Stopped cause device =
      (after, (λ e. let no : fault.Stopped ≡ fault.Memory = e in cc), cause, device)
  told_of after (fault.Foreign g) cause device =
      (after, (λ e. let no : fault.Foreign g ≡ fault.Memory = e in cc), cause, device)

-- ---- all of them

one_node : {X : Type 0} (xs : List X) (y x : X) (k : ℕ) → slice_get (xs ++ y ∷ []) k ≡ Some x
    → (slice_get xs k ≡ Some x) ⊎ ((k ≡ length xs) × (y ≡ x))
one_node [] y x zero e = inr (refl, (let same : Some y ≡ Some x = e in cc))
one_node [] y x (suc k) e = absurd (let no : None ≡ Some x = e in cc)
one_node (z ∷ zs) y x zero e = inl e
one_node (z ∷ zs) y x (suc k) e = ⊎_elim (λ old. inl old) (λ new. inr (ap suc new.0, new.1))
    (one_node zs y x k e)

-- elements at the same places of lists of the same length
zipped : {X Y : Type 0} (R : X → Y → Type 0) (xs : List X) (ys : List Y) → length xs ≡ length ys
    → ((k : ℕ) (x : X) → slice_get xs k ≡ Some x → (y : Y) × (slice_get ys k ≡ Some y) × R x y)
    → AllZip R xs ys
zipped R [] [] same each = tt
zipped R [] (y ∷ ys) same each = absurd (omega (arith, same))
zipped R (x ∷ xs) [] same each = absurd (omega (arith, same))
zipped {Y = Y} R (x ∷ xs) (y ∷ ys) same each =
    let first = each 0 x refl in
    let known : ◌≡◌ {A = Option Y} (Some y) (Some first.0) = first.1 in
    let one : y ≡ first.0 = cc in
    (subst (R x) (sym one) first.2, zipped R xs ys (omega (arith, same)) (λ k. each (suc k)))

module _ {D : Type 0} (disk : Disk D) (tree : Tree) (weights : List ℕ) (disks : List D) where
  -- no node yet
  pub none_yet : AreFresh disk tree weights disks []
  none_yet = record { each = λ k n at. absurd (let no : None ≡ Some n = at in cc) }

  module _ (nodes : List (LoggedNode D)) (are : AreFresh disk tree weights disks nodes) where
    -- one more node
    pub one_more : (me : ℕ) → me ≡ length nodes → (passed : D) → slice_get disks me ≡ Some passed
        → (n : LoggedNode D) → IsFresh disk tree weights me passed n → (now : List (LoggedNode D))
        → now ≡ nodes ++ n ∷ [] → AreFresh disk tree weights disks now
    one_more me count passed stands n fresh now is = record {
      each = λ k m at. ⊎_elim (λ old. are.each k m old)
          (λ new. (
            passed,
            ap (slice_get disks) (new.0 ∙ sym count) ∙ stands,
            subst (λ y. IsFresh disk tree weights k passed y) new.1
                (subst (λ j. IsFresh disk tree weights j passed n) (count ∙ sym new.0) fresh),
          ))
          (one_node nodes n m k (ap (λ l. slice_get l k) (sym is) ∙ at));
    }

    -- nodes were opened over the first disks
    pub opened_before : (j : ℕ) (passed : D) → j < length nodes → slice_get disks j ≡ Some passed
        → IsOpenedFresh disk tree weights j passed
    opened_before j passed within stands = ⊎_elim by
        (λ past. absurd (omega (arith, within, past.0)))
        (slice_get_cases nodes j).1
      where
        by : ((n : LoggedNode D) × (j < length nodes) × (slice_get nodes j ≡ Some n)
            × (get_or nodes j n ≡ n)) → IsOpenedFresh disk tree weights j passed
        by (n, inside, at, read) =
            let own = are.each j n at in
            let known : ◌≡◌ {A = Option D} (Some own.0) (Some passed) = sym own.1 ∙ stands in
            let one : own.0 ≡ passed = cc in
            record {
              node = n;
              opened = own.2.opened;
              stands = subst (StandsFresh disk n) one own.2.stands;
            }

    -- and the next disk is the first that fails
    pub fails_at : (me : ℕ) → me ≡ length nodes → (passed : D) → slice_get disks me ≡ Some passed
        → (f : TurnFault) → IsOpeningFault disk tree weights me passed f
        → IsNewFault disk tree weights disks f
    fails_at me count passed stands f why = inr (record {
      place = me;
      passed = passed;
      stands = stands;
      before = λ j d within at. opened_before j d (omega (arith, within, count)) at;
      refused = why;
    })

    -- a node over each
    pub all_stand : length nodes ≡ length disks → AllZip (StandsFresh disk) nodes disks
    all_stand count = zipped (StandsFresh disk) nodes disks count
        (λ k n at. let own = are.each k n at in (own.0, own.1, own.2.stands))
