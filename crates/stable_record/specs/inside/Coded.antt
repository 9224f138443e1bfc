-- A coding of pasts. Proofs compare pasts by it, and a record keeps one that only contracts read.
use Rattle.std.specs.Prelude.{◌≡◌, ◌⊎◌, ℕ, ◌+◌, ◌≤◌, max, Bool, List, [], ◌∷◌, ◌++◌, length, take, drop, refl}
use Rattle.std.specs.Coded.{Coded, Coded-set, coded_ℕ, coded_bool, coded_list, coded×, coded⊎, prop_coded, code_by, ×_prop, Π_prop, le_prop}
use Rattle.std.proofs.Common.{inl, inr}
use base.Stored.{coded_unit}
use denote.Struct.Codes.{also_coded}
use Rattle.stable_record.specs.Crash.{CutOrNot, IsFile, MayLeave, Torn, range_end}
use Rattle.stable_record.specs.Events.{Past}
use Rattle.stable_record.specs.History.{Call, History, IsBytes, cut_to, found, seen, stands, synced, written}

-- the coding of files
abbrev file_code : Coded (List ℕ)
file_code = coded_list coded_ℕ

abbrev same_prop : (a b : List ℕ) → IsProp (a ≡ b)
same_prop a b = Coded-set file_code a b

abbrev bytes_prop : (file : List ℕ) → IsProp (IsBytes file)
bytes_prop file = Π_prop (λ k. le_prop)

-- the coding of calls
abbrev Cases : Type 0
Cases = List ℕ ⊎ (List ℕ ⊎ ((ℕ × (ℕ × List ℕ)) ⊎ ((ℕ × List ℕ) ⊎ Unit {0})))

abbrev cases_of : Call → Cases
cases_of (stands file) = inl file
cases_of (found file) = inr (inl file)
cases_of (written at count file) = inr (inr (inl (at, (count, file))))
cases_of (cut_to len file) = inr (inr (inr (inl (len, file))))
cases_of synced = inr (inr (inr (inr tt)))

abbrev call_of : Cases → Call
call_of (inl file) = stands file
call_of (inr (inl file)) = found file
call_of (inr (inr (inl (at, (count, file))))) = written at count file
call_of (inr (inr (inr (inl (len, file))))) = cut_to len file
call_of (inr (inr (inr (inr _)))) = synced

pub call_of-cases_of : (call : Call) → call_of (cases_of call) ≡ call
call_of-cases_of (stands file) = refl
call_of-cases_of (found file) = refl
call_of-cases_of (written at count file) = refl
call_of-cases_of (cut_to len file) = refl
call_of-cases_of synced = refl

abbrev cases_code : Coded Cases
cases_code =
    coded⊎ file_code (coded⊎ file_code (coded⊎ (coded× coded_ℕ (coded× coded_ℕ file_code))
    (coded⊎ (coded× coded_ℕ file_code) coded_unit)))

abbrev calls_code : Coded History
calls_code = coded_list (code_by Cases cases_code cases_of call_of call_of-cases_of)

-- the coding of what a torn write left
abbrev TornBy : ℕ → ℕ → List ℕ → List ℕ → List ℕ → Type 0
TornBy at count old new middle =
    (new ≡ take at old ++ middle ++ drop (at + count) old)
    × ((length old ≤ length new)
    × ((length new ≤ max (length old) (range_end at count)) × IsBytes new))

abbrev torn_code : (at count : ℕ) (old new : List ℕ) → Coded (Torn at count old new)
torn_code at count old new =
    code_by ((middle : List ℕ) × TornBy at count old new middle)
    (also_coded file_code (λ middle. prop_coded
    (×_prop (same_prop new (take at old ++ middle ++ drop (at + count) old))
    (×_prop le_prop (×_prop le_prop (bytes_prop new))))))
    (λ t. (t.middle, (t.parts, (t.no_shorter, (t.no_longer, t.are_bytes)))))
    (λ t. record {
      middle = t.0;
      parts = t.1.0;
      no_shorter = t.1.1.0;
      no_longer = t.1.1.1.0;
      are_bytes = t.1.1.1.1;
    })
    (λ _. refl)

abbrev cut_code : (len : ℕ) (old new : List ℕ) → Coded (CutOrNot len old new)
cut_code len old new =
    coded⊎ (prop_coded (same_prop new old)) (prop_coded (same_prop new (take len old)))

-- the coding of a file with two proofs about it
abbrev three_code : (P Q : List ℕ → Type 0) → ((d : List ℕ) → Coded (P d))
    → ((d : List ℕ) → Coded (Q d)) → Coded ((d : List ℕ) × P d × Q d)
three_code P Q p q =
    code_by ((d : List ℕ) × (P d × Q d)) (also_coded file_code (λ d. coded× (p d) (q d)))
    (λ t. (t.0, (t.1, t.2))) (λ t. (t.0, t.1.0, t.1.1)) (λ _. refl)

-- the coding of proofs that a crash may leave a file
abbrev left_code : (h : History) (c : List ℕ) → Coded (MayLeave h c)
left_code [] c = prop_coded (same_prop c [])
left_code (stands file ∷ h) c = prop_coded (×_prop (same_prop c file) (bytes_prop c))
left_code (found file ∷ h) c = prop_coded (bytes_prop c)
left_code (written at count file ∷ h) c =
    three_code (MayLeave h) (λ d. Torn at count d c) (left_code h) (λ d. torn_code at count d c)
left_code (cut_to len file ∷ h) c =
    three_code (MayLeave h) (λ d. CutOrNot len d c) (left_code h) (λ d. cut_code len d c)
left_code (synced ∷ h) c = prop_coded (×_prop (same_prop c (seen h)) (bytes_prop c))

-- the coding of pasts
abbrev pub past_code : Coded Past
past_code =
    code_by ((calls : History) × (MayLeave calls (seen calls) × (List (List ℕ) × List Bool)))
    (also_coded calls_code (λ calls. coded× (left_code calls (seen calls))
    (coded× (coded_list file_code) (coded_list coded_bool))))
    (λ p. (p.calls, (p.possible, (p.torn, p.done))))
    (λ p. record { calls = p.0; possible = p.1.0; torn = p.1.1.0; done = p.1.1.1 })
    (λ _. refl)
