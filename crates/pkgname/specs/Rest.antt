-- The rank of what follows the digits of a component.
use Rattle.std.specs.Prelude.{ℕ, ◌&&◌, [], length, drop, codes, Option, Some, None, if◌then◌else◌}
use Rattle.std.specs.Char.{is_ascii_digit}
use Rattle.std.specs.List.{list_all}
use Rattle.std.specs.Ordering.{nat_cmp, on, then_cmp}
use Rattle.std.specs.declared.cmp.Ordering.{Ordering}
use Rattle.faults.specs.Bytes.{Text, begins_with, is_empty}
use Rattle.faults.specs.Pieces.{text_cmp}
use Rattle.pkgname.specs.Version.{number_of}
use Rattle.pkgname.specs.declared.rest.Rank.{Rank}
use Rattle.pkgname.specs.declared.rest.Rank.TheVariants.{Alpha, Beta, Pre, Candidate, Release, PatchLevel, Other}

-- the place of a rank, counted from the lowest, which is 0
abbrev pub place_of : Rank → ℕ
place_of Alpha = 0
place_of Beta = 1
place_of Pre = 2
place_of Candidate = 3
place_of Release = 4
place_of PatchLevel = 5
place_of Other = 6

-- a rest: its rank, and what distinguishes it from others of that rank, a number or its bytes
pub record Rest : Type 0 where
  pub rank : Rank
  pub number : ℕ
  pub text : Text

-- the number after the word, if the text is the word and only digits after it
abbrev pub number_behind : Text → Text → Option ℕ
number_behind word text =
    if begins_with word text && list_all is_ascii_digit (drop (length word) text)
    then Some (number_of (drop (length word) text))
    else None

-- a rest of this rank if there is a number after its word, and else the other one
abbrev pub by_word : Rank → Option ℕ → Rest → Rest
by_word rank None other = other
by_word rank (Some number) other = record { rank = rank; number = number; text = [] }

-- a rest without such a word: that of the release itself if it is empty, and else another one,
-- distinguished by its bytes
abbrev pub without_word : Text → Rest
without_word text =
    record { rank = if is_empty text then Release else Other; number = 0; text = text }

-- the rest that a text is, the first that applies: one of these words with only digits or nothing
-- after it; else a rest without a word
abbrev pub rest_of : Text → Rest
rest_of text =
    by_word Alpha (number_behind (codes "alpha") text)
    (by_word Beta (number_behind (codes "beta") text)
    (by_word Pre (number_behind (codes "pre") text)
    (by_word Candidate (number_behind (codes "rc") text)
    (by_word PatchLevel (number_behind (codes "pl") text)
    (without_word text)))))

-- rests of equal rank compare by number, and then by bytes
abbrev pub within_rank_cmp : Rest → Rest → Ordering
within_rank_cmp = then_cmp (on (λ r. r.number) nat_cmp) (on (λ r. r.text) text_cmp)

-- rests compare by rank, and then within it
abbrev pub rest_cmp : Rest → Rest → Ordering
rest_cmp = then_cmp (on (λ r. place_of r.rank) nat_cmp) within_rank_cmp
