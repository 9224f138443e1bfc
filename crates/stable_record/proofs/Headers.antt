-- The bytes between a log's first gate and its first note.
use Rattle.std.proofs.Common.{◌≡◌, ◌⊎◌, ⊎_elim, inl, inr, ℕ, ◌+◌, ◌≤◌, true, false, List, [], ◌∷◌, ◌++◌, length, take, drop, get_or, refl, ◌∙◌, ap, arith, append_assoc, length-append}
use Rattle.std.specs.Prelude.{if◌then◌else◌}
use Rattle.std.proofs.lemmas.List.{take_at, get_or-append_right}
use Rattle.stable_record.specs.declared.identity.Identity.{Identity}
use Rattle.stable_record.specs.Log.{header, magic, written_weights}
use Rattle.stable_record.specs.Magic.{HasMagic, are_ones, plain_magic, weighted_magic}

module _ (i : Identity) where
  magic_len : length (magic i) ≡ 8
  magic_len = elim (are_ones i.weights.items) as (λ b. length (if b then plain_magic else weighted_magic) ≡ 8) [ true ↦ refl | false ↦ refl ]

  abbrev two : List ℕ
  two = length i.weights.items ∷ i.me ∷ []

  parts : (rest : List ℕ) → header i ++ rest ≡ magic i ++ (i.tree ++ (two ++ (written_weights i ++ rest)))
  parts rest =
      append_assoc (magic i ++ i.tree ++ two) (written_weights i) rest
      ∙ append_assoc (magic i ++ i.tree) two (written_weights i ++ rest)
      ∙ append_assoc (magic i) i.tree (two ++ (written_weights i ++ rest))

  pub magic_in_front : (rest : List ℕ) → take 8 (header i ++ rest) ≡ magic i
  magic_in_front rest = ap (take 8) (parts rest) ∙ take_at (magic i) (i.tree ++ (two ++ (written_weights i ++ rest))) 8 magic_len

  pub header_len : length i.tree ≡ 32 → length (header i) ≡ 42 + length (written_weights i)
  header_len size =
      omega (
        arith,
        size,
        magic_len,
        length-append (magic i ++ i.tree ++ two) (written_weights i),
        length-append (magic i ++ i.tree) two,
        length-append (magic i) i.tree,
      )

  -- whatever the digest is
  pub header_no_less : 10 ≤ length (header i)
  header_no_less =
      omega (
        arith,
        magic_len,
        length-append (magic i ++ i.tree ++ two) (written_weights i),
        length-append (magic i ++ i.tree) two,
        length-append (magic i) i.tree,
      )

  -- the number of members is byte 41 of the file
  pub count_in_place : length i.tree ≡ 32 → (rest : List ℕ) → get_or (header i ++ rest) 40 0 ≡ length i.weights.items
  count_in_place size rest =
      ap (λ l. get_or l 40 0) (append_assoc (magic i ++ i.tree ++ two) (written_weights i) rest ∙ append_assoc (magic i ++ i.tree) two (written_weights i ++ rest))
      ∙ get_or-append_right (magic i ++ i.tree) (two ++ (written_weights i ++ rest)) 40 40 0 (omega (arith, size, magic_len, length-append (magic i) i.tree)) (omega arith)

  -- the magic determines whether the weights are written
  pub weights_there : magic i ≡ weighted_magic → written_weights i ≡ i.weights.items
  weights_there =
      elim (are_ones i.weights.items) as (λ b. (if b then plain_magic else weighted_magic) ≡ weighted_magic → (if b then [] else i.weights.items) ≡ i.weights.items) [
        | true ↦ λ same. absurd (let last : 49 ≡ 50 = ap (λ l. get_or l 7 0) same in omega (arith, last))
        | false ↦ λ same. refl
      ]

  pub either_magic : (file : List ℕ) → HasMagic (magic i) file → HasMagic plain_magic file ⊎ HasMagic weighted_magic file
  either_magic file =
      elim (are_ones i.weights.items) as (λ b. HasMagic (if b then plain_magic else weighted_magic) file → HasMagic plain_magic file ⊎ HasMagic weighted_magic file) [
        | true ↦ λ is. inl is
        | false ↦ λ is. inr is
      ]
