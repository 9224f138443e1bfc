-- Lists of lines, and their texts.
use Rattle.std.proofs.Common.{◌≡◌, suc, Bool, true, false, List, [], ◌∷◌, ◌++◌, All, codes, drop, get_or, map, refl, sym, ap, ◌∙◌, append_assoc, arith}
use Rattle.std.specs.List.{list_all}
use Rattle.std.proofs.lemmas.Bool.{and_parts, not-true}
use Rattle.faults.specs.Bytes.{Text, has_byte}
use Rattle.pkgpath.proofs.Pieces.{lacks}
use Rattle.claims.specs.Job as jobs
use Rattle.package_record.specs.Content.{built_line, claim_line, ended}
use Rattle.package_record.specs.Reading.{cut_in}
use Rattle.package_record.proofs.ReadFields.{cut_read}
use Rattle.package_record.proofs.Steps.{ok_is}
use Rattle.package_record.proofs.Texts.{ended_more}
use Rattle.job_folder.specs.Tasks.{Task, host_line, job_text, package_line, task_of, task_text, tree_line}

-- no line has an LF
abbrev pub are_lines : List Text → Bool
are_lines lines = list_all (lacks 10) lines

-- two texts that are split at the same place
same_halves : (l m rest other : Text) → has_byte 10 l ≡ false → has_byte 10 m ≡ false
    → l ++ 10 ∷ rest ≡ m ++ 10 ∷ other → (l ≡ m) × (rest ≡ other)
same_halves l m rest other no_l no_m is =
    let same = ok_is (l, rest) (m, other) (sym (cut_read 10 0 l rest no_l) ∙ ap (cut_in 10 0) is ∙ cut_read 10 0 m other no_m) in
    (ap (λ p. p.0) same, ap (λ p. p.1) same)

first_line : (l : Text) (ls : List Text) → ended (l ∷ ls) ≡ l ++ 10 ∷ ended ls
unfolding ended
first_line l ls = append_assoc l (10 ∷ []) (ended ls)

no_lines : ended [] ≡ []
unfolding ended
no_lines = refl

nothing_ends : (l rest : Text) → [] ≡ l ++ 10 ∷ rest → ⊥
nothing_ends [] rest is = cc
nothing_ends (x ∷ l) rest is = cc

-- equal texts begin with the same line
pub same_first : (l m : Text) (ls ms : List Text) → has_byte 10 l ≡ false → has_byte 10 m ≡ false
    → ended (l ∷ ls) ≡ ended (m ∷ ms) → l ≡ m
same_first l m ls ms no_l no_m is =
    (same_halves l m (ended ls) (ended ms) no_l no_m (sym (first_line l ls) ∙ is ∙ first_line m ms)).0

-- lines with equal texts are equal
pub same_lines : (ls ms : List Text) → are_lines ls ≡ true → are_lines ms ≡ true → ended ls ≡ ended ms → ls ≡ ms
same_lines [] [] none other is = refl
same_lines [] (m ∷ ms) none other is = absurd (nothing_ends m (ended ms) (sym no_lines ∙ is ∙ first_line m ms))
same_lines (l ∷ ls) [] some other is = absurd (nothing_ends l (ended ls) (sym no_lines ∙ sym is ∙ first_line l ls))
same_lines (l ∷ ls) (m ∷ ms) some other is =
    let one = and_parts (lacks 10 l) (are_lines ls) some in
    let two = and_parts (lacks 10 m) (are_lines ms) other in
    let halves = same_halves l m (ended ls) (ended ms) (not-true (has_byte 10 l) one.0) (not-true (has_byte 10 m) two.0)
    (sym (first_line l ls) ∙ is ∙ first_line m ms) in
    ap (λ x. x ∷ ls) halves.0 ∙ ap (λ xs. m ∷ xs) (same_lines ls ms one.1 two.1 halves.1)

-- ---- the end of the lines of one kind

-- the next line is not of this kind
abbrev pub Stops : {X : Type 0} → (X → Text) → List Text → Type 0
Stops {X} f lines = (x : X) (rest : List Text) → lines ≡ f x ∷ rest → ⊥

pub heads_are : (x y : Text) (xs ys : List Text) → x ∷ xs ≡ y ∷ ys → (x ≡ y) × (xs ≡ ys)
heads_are x y xs ys is = (ap (λ (ls : List Text). get_or ls 0 []) is, ap (drop 1) is)

-- the first lines of one kind are equal
pub same_front : {X : Type 0} (f : X → Text) (xs ys : List X) (r s : List Text) → Stops f r → Stops f s
    → map f xs ++ r ≡ map f ys ++ s → (map f xs ≡ map f ys) × (r ≡ s)
same_front f [] [] r s stops other is = (refl, is)
same_front f [] (y ∷ ys) r s stops other is = absurd (stops y (map f ys ++ s) is)
same_front f (x ∷ xs) [] r s stops other is = absurd (other x (map f xs ++ r) (sym is))
same_front f (x ∷ xs) (y ∷ ys) r s stops other is =
    let front = heads_are (f x) (f y) (map f xs ++ r) (map f ys ++ s) is in
    let behind = same_front f xs ys r s stops other front.1 in
    (ap (λ l. l ∷ map f xs) front.0 ∙ ap (λ ls. f y ∷ ls) behind.0, behind.1)

-- lines of one kind are those of equal elements, if each line determines its element
pub same_things : {X : Type 0} (f : X → Text) (Is : X → Type 0) → ((x y : X) → Is x → Is y → f x ≡ f y → x ≡ y)
    → (xs ys : List X) → All Is xs → All Is ys → map f xs ≡ map f ys → xs ≡ ys
same_things f Is tells [] [] are other is = refl
same_things f Is tells [] (y ∷ ys) are other is = absurd (let no : [] ≡ f y ∷ map f ys = is in cc)
same_things f Is tells (x ∷ xs) [] are other is = absurd (let no : f x ∷ map f xs ≡ [] = is in cc)
same_things f Is tells (x ∷ xs) (y ∷ ys) are other is =
    let parts = heads_are (f x) (f y) (map f xs) (map f ys) is in
    let first = tells x y (are 0 x (omega arith)) (other 0 y (omega arith)) parts.0 in
    ap (λ z. z ∷ xs) first
    ∙ ap (λ zs. y ∷ zs) (same_things f Is tells xs ys (λ k z below. are (suc k) z (omega arith)) (λ k z below. other (suc k) z (omega arith)) parts.1)

-- ---- the text of a job

-- the lines of the host and the claim after the text of the task
pub job_told : (tree : Text) (job : jobs.Task) (front mid whole : Text) → front ≡ task_text tree (task_of job)
    → mid ≡ front ++ ended (host_line job.host ∷ []) → whole ≡ mid ++ ended (claim_line job.claim ∷ []) → whole ≡ job_text tree job
job_told tree job front mid whole task host claim =
    ended_more [] front whole _ (host_line job.host ∷ claim_line job.claim ∷ []) task (ended_more front mid whole _ _ host claim)

-- the lines of the packages and of the signatures after those of the tree and the unit
pub task_told : (tree : Text) (t : Task) (head first mid whole : Text) → head ≡ ended (tree_line tree ∷ [])
    → first ≡ head ++ ended ((codes "@unit " ++ t.unit) ∷ []) → mid ≡ first ++ ended (map package_line t.packages)
    → whole ≡ mid ++ ended (map built_line t.built) → whole ≡ task_text tree t
task_told tree t head first mid whole front unit packages built =
    let two = ended_more [] head first (tree_line tree ∷ []) ((codes "@unit " ++ t.unit) ∷ []) front unit in
    let more = ended_more [] first mid (tree_line tree ∷ (codes "@unit " ++ t.unit) ∷ []) (map package_line t.packages) two packages in
    ended_more [] mid whole (tree_line tree ∷ (codes "@unit " ++ t.unit) ∷ map package_line t.packages) (map built_line t.built) more built
