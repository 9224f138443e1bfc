use Rattle.std.proofs.Common.{◌≡◌, ◌⊎◌, inl, inr, ⊎_elim, ℕ, ◌+◌, ◌-◌, List, [], ◌∷◌, length, take, drop, Some, None, Result, Ok, Err, IfOk, IfErr, ◌≤◌, add-one, sym, ◌∙◌, ap, subst, refl, arith, length-take, length-drop}
use Rattle.std.specs.Prelude.{slice_get}
use Rattle.std.proofs.lemmas.List.{take_rest}
use Rattle.stable_record.specs.declared.identity.Identity.{Identity}
use Rattle.stable_record.specs.declared.log_fault.LogFault.{LogFault}
use Rattle.stable_record.specs.declared.log_fault.LogFault.TheVariants.{Memory, NotALog}
use Rattle.stable_record.specs.declared.reading.Opening.{Opening}
use Rattle.stable_record.specs.Log.{header, open_gate}
use Rattle.stable_record.specs.Opening.{IsBroken, neither, lacks_weights, broken, Opens}
use Rattle.stable_record.specs.inside.Reading.{OpensTo}
use Rattle.stable_record.proofs.reading.opening_of.Goals as goal

-- the gate and the header after it
begins : (i : Identity) (file owner : List ℕ) (n : ℕ) → owner ≡ header i → slice_get file 0 ≡ Some open_gate → take (length owner) (drop 1 file) ≡ owner → n ≡ length owner → take (n + 1) file ≡ open_gate ∷ header i
begins i [] owner n is opened right size = absurd (let e : None ≡ Some open_gate = opened in cc)
begins i (gate ∷ rest) owner n is opened right size =
    let first : gate ≡ open_gate = cc in
    rw add-one (ap (λ k. gate ∷ take k rest) size ∙ ap (λ g. g ∷ take (length owner) rest) first ∙ ap (λ l. open_gate ∷ l) (right ∙ is))

ok_at : (r : Result Opening LogFault) (i : Identity) (file : List ℕ) (first : ℕ) → IfOk r (λ o. (j : Identity) → take first file ≡ open_gate ∷ header j → OpensTo j file o)
    → take first file ≡ open_gate ∷ header i → IfOk r (OpensTo i file)
ok_at (Ok o) i file first h at = h i at
ok_at (Err e) i file first h at = tt

refused_at : (r : Result Opening LogFault) (i : Identity) (file : List ℕ) (first : ℕ) → IfErr r (λ e. (e ≡ Memory) ⊎ ((e ≡ NotALog) × ((j : Identity) → take first file ≡ open_gate ∷ header j → IsBroken j file)))
    → take first file ≡ open_gate ∷ header i → IfErr r (λ e. (e ≡ Memory) ⊎ Opens i file (Err e))
refused_at (Ok o) i file first h at = tt
refused_at (Err e) i file first h at = ⊎_elim (λ none. inl none) (λ is. inr (subst (λ f. Opens i file (Err f)) (sym is.0) (broken (is.1 i at)))) h

-- the test's result, for the file
owner_of : (file owner x : List ℕ) → x ≡ owner → take (length x) (take (length file - 1) (drop 1 file)) ≡ x → take (length owner) (drop 1 file) ≡ owner
owner_of file owner x same right = subst (λ l. take (length l) (drop 1 file) ≡ l) same (ap (take (length x)) (sym (take_rest file 1)) ∙ right)

-- the header isn't longer than the file
within : (file owner : List ℕ) (n : ℕ) → take (length owner) (drop 1 file) ≡ owner → 44 ≤ length file → n ≡ length owner → n + 1 ≤ length file
within file owner n right long size = omega (arith, ap length right, length-take (length owner) (drop 1 file), length-drop 1 file, long, size)

-- the converse
owner_at : (file header x : List ℕ) → x ≡ header → take (length header) (drop 1 file) ≡ header
    → take (length x) (take (length file - 1) (drop 1 file)) ≡ x
owner_at file header x same right =
    subst (λ l. take (length l) (take (length file - 1) (drop 1 file)) ≡ l) (sym same) (ap (take (length header)) (take_rest file 1) ∙ right)

pub returns-then-is_blank-clause-ok : goal.returns-then-is_blank-clause-ok
returns-then-is_blank-clause-ok c =
    let size : c.len-size.result + 2 ≡ 2 + length (header c.args.identity.now) = omega (arith, c.len-size.ensures, ap length c.in_ok-header.ensures.bytes) in
    (c.if-is_blank.ensures c.args.identity.now size c.magic.ensures.magic).0 refl

pub returns-then-not-is_log-clause-refused : goal.returns-then-not-is_log-clause-refused
returns-then-not-is_log-clause-refused c =
    let size : c.len-size.result + 2 ≡ 2 + length (header c.args.identity.now) = omega (arith, c.len-size.ensures, ap length c.in_ok-header.ensures.bytes) in
    let blank = c.if-is_blank.ensures c.args.identity.now size c.magic.ensures.magic in
    let log = c.if-not-is_log.ensures in
    inr (neither (λ is. let yes = blank.1 is in absurd cc) (λ is. let yes = log.1 is in absurd cc))

pub returns-then-lacks_weights-clause-refused : goal.returns-then-lacks_weights-clause-refused
returns-then-lacks_weights-clause-refused c = inr (lacks_weights (c.if-not-is_log.ensures.0 refl) (c.if-lacks_weights.ensures.0 refl))

pub returns-then-not-begins_with-clause-refused : goal.returns-then-not-begins_with-clause-refused
returns-then-not-begins_with-clause-refused c =
    let file = c.args.file.now in
    let lacks = c.if-lacks_weights.ensures in
    let begins = c.if-not-begins_with.ensures in
    inr record {
      is_log = c.if-not-is_log.ensures.0 refl;
      has_weights = λ is. let yes = lacks.1 is in absurd cc;
      differs = λ is. let yes = begins.1 (owner_at file (header c.args.identity.now) c.deref.result.now (c.deref.ensures.value ∙ c.in_ok-header.ensures.bytes) is) in absurd cc;
    }

pub notes_behind-requires : goal.notes_behind-requires
notes_behind-requires c =
    let file = c.args.file.now in
    let owner = c.in_ok-header.header.items in
    let right = owner_of file owner c.deref.result.now c.deref.ensures.value (c.if-not-begins_with.ensures.0 refl) in
    within file owner c.len-size.result right (c.if-not-is_log.ensures.0 refl).long_enough (c.len-size.ensures ∙ sym c.deref.ensures.len ∙ ap length c.deref.ensures.value)

pub returns-clause-ok : goal.returns-clause-ok
returns-clause-ok c =
    let i = c.args.identity.now in
    let file = c.args.file.now in
    let owner = c.in_ok-header.header.items in
    let log = c.if-not-is_log.ensures.0 refl in
    let right = owner_of file owner c.deref.result.now c.deref.ensures.value (c.if-not-begins_with.ensures.0 refl) in
    let size = c.len-size.ensures ∙ sym c.deref.ensures.len ∙ ap length c.deref.ensures.value in
    ok_at c.notes_behind.result i file (c.len-size.result + 1) c.notes_behind.ensures.ok (begins i file owner c.len-size.result c.in_ok-header.ensures.bytes log.is_open right size)

pub returns-clause-refused : goal.returns-clause-refused
returns-clause-refused c =
    let i = c.args.identity.now in
    let file = c.args.file.now in
    let owner = c.in_ok-header.header.items in
    let log = c.if-not-is_log.ensures.0 refl in
    let right = owner_of file owner c.deref.result.now c.deref.ensures.value (c.if-not-begins_with.ensures.0 refl) in
    let size = c.len-size.ensures ∙ sym c.deref.ensures.len ∙ ap length c.deref.ensures.value in
    refused_at c.notes_behind.result i file (c.len-size.result + 1) c.notes_behind.ensures.refused (begins i file owner c.len-size.result c.in_ok-header.ensures.bytes log.is_open right size)
