-- The lines of the nodes so far.
use Rattle.std.proofs.Common.{◌≡◌, ◌+◌, ◌∙◌, ◌++◌, ℕ, zero, suc, Bool, true, false, List, [], ◌∷◌, Option, None, Some, if◌then◌else◌, length, arith, ap, refl, sym, subst, slice_get, flat_map, unwrap_or}
use Rattle.std.proofs.lemmas.Grind.{flat_map-append}
use Rattle.std.proofs.lemmas.List.{append-nil, length-append}
use Rattle.engine.specs.State.{AreCounts, State}
use Rattle.engine.specs.declared.Counts.{Counts}
use Rattle.faults.specs.Bytes.{Text}
use Rattle.program_io.specs.NodeLine.{IsLineOf, node_line}
use Rattle.protocol.specs.State.{engine_of}
use Rattle.dpbr_run.specs.shared.NodeLines.{HasNodeLines}
use Rattle.dpbr_run.specs.Run.{IsNodeLine, letters_at}
use Rattle.world.specs.Happening.{is_up, up_of}
use Rattle.world.specs.World.{World, WorldNode, member_at}

-- ---- one node

-- what a node shows, given whether it is up
shown : (w : World) (k : ℕ) (b : Bool) → is_up w k ≡ b → (x : WorldNode) → slice_get w.nodes k ≡ Some x
    → letters_at w k x ≡ (if b then Some (engine_of (member_at w k x)) else None)
shown w k b is x stands = ap (λ up. if up then Some (engine_of (member_at w k x)) else None) (ap up_of (sym stands) ∙ is)

-- the line of a node that is down
pub down_line : (w : World) (k : ℕ) (line : Text) → is_up w k ≡ false → line ≡ node_line k None → IsNodeLine w k line
down_line w k line down is x stands = subst (λ (o : Option State). IsLineOf k o line) (sym (shown w k false down x stands)) is

-- the line of a node that is up
pub up_line : (w : World) (k : ℕ) (c : Counts) (line : Text) → is_up w k ≡ true
    → ((x : WorldNode) → slice_get w.nodes k ≡ Some x → AreCounts (engine_of (member_at w k x)) c)
    → line ≡ node_line k (Some c) → IsNodeLine w k line
up_line w k c line up counts is x stands =
    subst (λ (o : Option State). IsLineOf k o line) (sym (shown w k true up x stands)) (c, counts x stands, is)

-- ---- all of them

-- what holds of each line and of one more
one_more : (P : ℕ → Text → Type 0) (lines : List Text) (line : Text) → ((k : ℕ) (l : Text) → slice_get lines k ≡ Some l → P k l) → P (length lines) line
    → (k : ℕ) (l : Text) → slice_get (lines ++ line ∷ []) k ≡ Some l → P k l
one_more P [] line each last zero l e = let same : line ≡ l = ap (λ o. unwrap_or o line) e in subst (P 0) same last
one_more P [] line each last (suc k) l e = absurd (let no : None ≡ Some l = e in cc)
one_more P (x ∷ xs) line each last zero l e = each 0 l e
one_more P (x ∷ xs) line each last (suc k) l e = one_more (λ m. P (suc m)) xs line (λ m. each (suc m)) last k l e

pub no_node_lines : (w : World) → HasNodeLines w 0 []
no_node_lines w = record { lines = []; count = refl; are_lines = λ k line e. absurd (let no : None ≡ Some line = e in cc); text_is = refl }

pub node_lines_more : (w : World) (n : ℕ) (text after line : Text) → HasNodeLines w n text → IsNodeLine w n line → after ≡ text ++ line
    → HasNodeLines w (n + 1) after
node_lines_more w n text after line has is appended = record {
  lines = has.lines ++ line ∷ [];
  count = let more : length (has.lines ++ line ∷ []) ≡ length has.lines + 1 = search (length-append, arith) in more ∙ ap (λ m. m + 1) has.count;
  are_lines = one_more (IsNodeLine w) has.lines line has.are_lines (subst (λ m. IsNodeLine w m line) (sym has.count) is);
  text_is =
      let all : flat_map (λ l. l) (has.lines ++ line ∷ []) ≡ flat_map (λ l. l) has.lines ++ (line ++ []) = flat_map-append (λ l. l) has.lines (line ∷ []) in
      appended ∙ ap (λ (t : Text). t ++ line) has.text_is ∙ ap (λ (t : Text). flat_map (λ l. l) has.lines ++ t) (sym (append-nil line)) ∙ sym all;
}
