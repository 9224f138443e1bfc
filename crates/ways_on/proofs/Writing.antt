-- The events of a way as they are appended, one asked node after another.
use Rattle.std.proofs.Common.{◌≡◌, ◌+◌, ℕ, suc, List, [], ◌∷◌, ◌++◌, Option, length, refl, sym, ap, ◌∙◌, arith, append_assoc}
use Rattle.std.proofs.lemmas.List.{append-nil}
use Rattle.claims.specs.Votes.{Ballot, kept_report}
use Rattle.claims.specs.declared.claim.Claim.{Claim}
use Rattle.protocol.specs.Events.{Deliver, Event}
use Rattle.protocol.specs.State.{Value}
use Rattle.ways_on.specs.Rounds.{seen_at}
use Rattle.ways_on.specs.inside.Listed.{asks_from, behind_promises, deliveries, promised_in, report_of_all, votes_from}
use Rattle.world.specs.World.{World}

-- one more node is asked
pub one_more_asked : (w : World) (u : ℕ) (c : Claim) (offer next : ℕ) (ks : List ℕ) (k : ℕ)
    → asks_from w u c offer next (ks ++ k ∷ [])
    ≡ asks_from w u c offer next ks ++ (Deliver offer k
    ∷ deliveries (behind_promises w u c next ks) (promised_in w u c k) c.member)
one_more_asked w u c offer next [] k =
    ap (λ (l : List Event). Deliver offer k ∷ l)
    (append-nil (deliveries next (promised_in w u c k) c.member))
one_more_asked w u c offer next (x ∷ xs) k =
    let n = promised_in w u c x in
    ap (λ (l : List Event). Deliver offer x ∷ (deliveries next n c.member ++ l))
    (one_more_asked w u c offer (next + n) xs k)
    ∙ ap (λ (l : List Event). Deliver offer x ∷ l)
    (sym (append_assoc (deliveries next n c.member) (asks_from w u c offer (next + n) xs)
    (Deliver offer k ∷ deliveries (behind_promises w u c (next + n) xs) (promised_in w u c k)
    c.member)))

-- more datagrams are sent
pub one_more_behind : (w : World) (u : ℕ) (c : Claim) (next : ℕ) (ks : List ℕ) (k : ℕ)
    → behind_promises w u c next (ks ++ k ∷ [])
    ≡ behind_promises w u c next ks + promised_in w u c k
one_more_behind w u c next [] k = refl
one_more_behind w u c next (x ∷ xs) k = one_more_behind w u c (next + promised_in w u c x) xs k

-- one more node votes
pub one_more_votes : (first count next me : ℕ) (ks : List ℕ) (k : ℕ)
    → votes_from first count next me (ks ++ k ∷ [])
    ≡ votes_from first count next me ks
    ++ (deliveries first count k ++ Deliver (next + length ks) me ∷ [])
one_more_votes first count next me [] k =
    ap (λ n. deliveries first count k ++ Deliver n me ∷ [])
    (let e : next ≡ next + 0 = omega arith in e)
one_more_votes first count next me (x ∷ xs) k =
    ap (λ (l : List Event). deliveries first count x ++ Deliver next me ∷ l)
    (one_more_votes first count (suc next) me xs k
    ∙ ap (λ n. votes_from first count (suc next) me xs
    ++ (deliveries first count k ++ Deliver n me ∷ []))
    (let e : suc next + length xs ≡ next + suc (length xs) = omega arith in e))
    ∙ sym (append_assoc (deliveries first count x)
    (Deliver next me ∷ votes_from first count (suc next) me xs)
    (deliveries first count k ++ Deliver (next + suc (length xs)) me ∷ []))

-- one more node reports
pub one_more_reports : (w : World) (u : ℕ) (kept : Option (Ballot Value)) (ks : List ℕ) (k : ℕ)
    → report_of_all w u kept (ks ++ k ∷ [])
    ≡ kept_report (report_of_all w u kept ks) (seen_at w u k).voted
one_more_reports w u kept [] k = refl
one_more_reports w u kept (x ∷ xs) k =
    one_more_reports w u (kept_report kept (seen_at w u x).voted) xs k
