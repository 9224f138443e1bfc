-- Cached digests of records.
use Rattle.std.proofs.Common.{◌≡◌, ◌<◌, ◌∙◌, ℕ, List, Option, None, Some, ap, inl, inr, length, replicate, set, subst, sym}
use Rattle.std.specs.List.{slice_index_or}
use Rattle.std.specs.Option.{is_some, unwrap_or}
use Rattle.std.proofs.lemmas.Bool.{cases_eq, false≢true}
use Rattle.std.proofs.lemmas.List.{get_or-replicate, get_or-set_other, get_or-set_same, length-replicate, length-set}
use Rattle.package_record.specs.Content.{Content}
use Rattle.member.specs.inside.Digests.{AreDigests, digest_of}

-- nothing is cached at first
pub none_kept : (n : ℕ) (rs : List Content) → n ≡ length rs → AreDigests (replicate n None) rs
none_kept n rs many = record {
  each = length-replicate n None ∙ many;
  right = λ place digest r other within at.
      absurd (false≢true (ap is_some
      (sym (get_or-replicate n place None other (subst (λ m. place < m) (length-replicate n None) within)) ∙ at)));
}

-- one more is cached
pub one_kept : (ds : List (Option (List ℕ))) (rs : List Content) (place : ℕ) (digest : List ℕ)
    → AreDigests ds rs → place < length rs
    → ((r : Content) → digest ≡ digest_of (slice_index_or rs place r))
    → AreDigests (set ds place (Some digest)) rs
one_kept ds rs place digest kept within its = record {
  each = length-set ds place (Some digest) ∙ kept.each;
  right = λ p found r other below at. elim (cases_eq p place) [
    | inl same ↦
        let here = get_or-set_same ds place (Some digest) other (subst (λ n. place < n) (sym kept.each) within) in
        let there = subst (λ q. slice_index_or (set ds place (Some digest)) q other ≡ Some found) same at in
        ap (λ o. unwrap_or o digest) (sym there ∙ here) ∙ its r
        ∙ ap (λ q. digest_of (slice_index_or rs q r)) (sym same)
    | inr different ↦
        kept.right p found r other (subst (λ n. p < n) (length-set ds place (Some digest)) below)
        (sym (get_or-set_other ds place p (Some digest) other different) ∙ at)
  ];
}
