-- Whatever a failed write or cut leaves, some past predicts it.
use Rattle.std.proofs.Common.{◌≡◌, ◌≤◌, ⊎_elim, ℕ, suc, ◌+◌, max, Bool, true, false, ◌&&◌, List, [], ◌∷◌, ◌++◌, length, take, drop, get_or, refl, sym, ◌∙◌, ap}
use Rattle.std.specs.Prelude.{if◌then◌else◌, nat_le, nat_lt}
use Rattle.std.specs.List.{list_all}
use Rattle.std.proofs.lemmas.Bool.{le-leb}
use Rattle.stable_record.specs.Crash.{range_end}
use Rattle.stable_record.specs.Events.{can_be_left}
use Rattle.stable_record.specs.History.{IsBytes}
use Rattle.stable_record.specs.Pasts.{TornCutsAreForetold, TornWritesAreForetold}

both_hold : (a b : Bool) → a ≡ true → b ≡ true → (a && b) ≡ true
both_hold true b first second = second
both_hold false b first second = first

are_tested : (xs : List ℕ) → IsBytes xs → list_all (λ byte. nat_lt byte 256) xs ≡ true
are_tested [] are = refl
are_tested (x ∷ xs) are =
    both_hold (nat_lt x 256) (list_all (λ byte. nat_lt byte 256) xs) (le-leb (suc x) 256 (are 0)) (are_tested xs (λ k. are (suc k)))

pub torn_writes : TornWritesAreForetold
torn_writes past es at count old new torn is =
    let no_shorter = nat_le (length old) (length new) in
    let no_longer = nat_le (length new) (max (length old) (range_end at count)) in
    let sizes = both_hold no_shorter no_longer (le-leb (length old) (length new) torn.no_shorter) (le-leb (length new) (max (length old) (range_end at count)) torn.no_longer) in
    let can : can_be_left at count old new ≡ true =
    both_hold (no_shorter && no_longer) (list_all (λ byte. nat_lt byte 256) new) sizes (are_tested new torn.are_bytes) in
    let said : take at old ++ get_or past.torn (length es) [] ++ drop (at + count) old ≡ new =
    ap (λ m. take at old ++ m ++ drop (at + count) old) is ∙ sym torn.parts in
    ap (λ f. if can_be_left at count old f then f else old) said ∙ ap (λ b. if b then new else old) can

pub torn_cuts : TornCutsAreForetold
torn_cuts len old new cut = ⊎_elim
    (λ same. (false, λ past es is. ap (λ b. if b then take len old else old) is ∙ sym same))
    (λ gone. (true, λ past es is. ap (λ b. if b then take len old else old) is ∙ sym gone))
    cut
