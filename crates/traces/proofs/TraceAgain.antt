-- A trace that was written is parsed again.
use Rattle.std.proofs.Common.{◌≡◌, ◌&&◌, ℕ, ◌+◌, ◌≤◌, ◌==◌, List, [], ◌∷◌, map, length, replicate, Bool, true, false, All, Some, Ok, refl, ap, ◌∙◌, arith, eqb, nat_le, IsUtf8}
use Rattle.std.proofs.lemmas.Bool.{and_parts, eq-eqb, eqb-true, leb-true}
use Rattle.std.proofs.lemmas.List.Elements.{All-head, All-tail}
use Rattle.std.specs.List.{list_all}
use Rattle.ballots.specs.Weights.{AreWeights, is_weight}
use Rattle.protocol.specs.Events.{Event}
use Rattle.faults.specs.Bytes.{Text}
use Rattle.serde_json.specs.Read.{read}
use Rattle.serde_json.specs.View.{items_of}
use Rattle.stable_record.specs.Magic.{are_ones}
use Rattle.traces.specs.Again.{IsTextEvent, IsTextTrace}
use Rattle.traces.specs.Fields.{◌>>=◌, all_of, number_of}
use Rattle.traces.specs.Trace.{Trace, equals_in, events_from, outer_in, table_of, trace_from, trace_of, weighted_in}
use Rattle.traces.specs.Written.{event_data, natural, trace_data}
use Rattle.traces.proofs.Values.{value_read}
use Rattle.traces.proofs.WrittenAgain.{event_again, number_again}

events_again : (n : ℕ) (es : List Event) → All IsTextEvent es → events_from n (items_of (map event_data es)) ≡ Ok es
events_again n [] are = refl
events_again n (e ∷ es) are = rw (event_again e (All-head IsTextEvent e es are), events_again (n + 1) es (All-tail IsTextEvent e es are)) refl

ones_again : (ws : List ℕ) → are_ones ws ≡ true → replicate (length ws) 1 ≡ ws
ones_again [] are = refl
ones_again (w ∷ ws) are =
    let parts = and_parts (eqb w 1) (are_ones ws) are in
    rw (eqb-true w 1 parts.0, ones_again ws parts.1) refl

weights_again : (ws : List ℕ) → list_all is_weight ws ≡ true → all_of (number_of 255) (items_of (map natural ws)) ≡ Some ws
weights_again [] are = refl
weights_again (w ∷ ws) are =
    let parts = and_parts (is_weight w) (list_all is_weight ws) are in
    let most = leb-true w 100 (and_parts (nat_le 1 w) (nat_le w 100) parts.0).1 in
    rw (number_again 255 w (omega (arith, most)), weights_again ws parts.1) refl

-- valid weights: their number is within its bounds, and so is each weight
same_length : (n : ℕ) → (n == n) ≡ true
same_length n = eq-eqb n n refl

pub record Parts (ws : List ℕ) : Type 0 where
  pub some : nat_le 1 (length ws) ≡ true
  pub few : length ws ≤ 9
  pub each : list_all is_weight ws ≡ true

pub parts_of : (ws : List ℕ) → AreWeights ws → Parts ws
parts_of ws are =
    let front = and_parts (nat_le 1 (length ws) && nat_le (length ws) 9) (list_all is_weight ws) are in
    let both = and_parts (nat_le 1 (length ws)) (nat_le (length ws) 9) front.0 in
    record { some = both.0; few = leb-true (length ws) 9 both.1; each = front.1 }

table_again : (ws : List ℕ) → AreWeights ws → are_ones ws ≡ false → table_of (length ws) ws ≡ Some ws
table_again ws are other = rw (are, other, same_length (length ws)) refl

again_by : (t : Trace) (b : Bool) → are_ones t.weights ≡ b → IsTextTrace t → trace_from (outer_in (trace_data t)) ≡ Ok t
unfolding equals_in weighted_in
again_by t true is good =
    let parts = parts_of t.weights good.weights in
    rw is (rw (number_again 9 (length t.weights) parts.few, parts.some, events_again 0 t.events good.events, ones_again t.weights is) refl)
again_by t false is good =
    let parts = parts_of t.weights good.weights in
    rw is (rw (number_again 9 (length t.weights) parts.few, weights_again t.weights parts.each, table_again t.weights good.weights is, events_again 0 t.events good.events) refl)

pub trace_again : (t : Trace) (text : Text) → IsTextTrace t → IsUtf8 text → read text ≡ Some (trace_data t) → trace_of text ≡ Ok t
trace_again t text good utf8 reads = ap (λ o. trace_from (o >>= outer_in)) (value_read text (trace_data t) utf8 reads) ∙ again_by t (are_ones t.weights) refl good
