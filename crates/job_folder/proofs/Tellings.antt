-- What the texts of tasks and of jobs determine.
use Rattle.std.proofs.Common.{◌≡◌, ℕ, suc, ◌^◌, ◌<◌, ◌≤◌, true, false, List, [], ◌∷◌, ◌++◌, All, codes, decimal, drop, get_or, map, true≢false, inl, inr, refl, sym, ap, ◌∙◌, append_assoc, arith}
use Rattle.std.specs.Str.{bytes_eq}
use Rattle.std.specs.Str.Parse.{digits_value}
use Rattle.std.proofs.lemmas.Bool.{and_from, cases_Bool}
use Rattle.std.proofs.lemmas.List.{append-nil}
use Rattle.std.proofs.lemmas.List.Folds.{list_all-append}
use Rattle.std.proofs.lemmas.Slice.Eq.{bytes_eq-Decides}
use Rattle.hex.specs.Hex.{IsBytes, decode_of, encode_lower}
use Rattle.hex.proofs.HexLemmas.{decode_of-encode_lower}
use Rattle.sha2.specs.Sha256.{sha256}
use Rattle.faults.specs.Bytes.{Text, has_byte}
use Rattle.pkgpath.specs.PkgPath.{IsPath}
use Rattle.pkgpath.proofs.Pieces.{lacks}
use Rattle.claims.specs.declared.claim.Claim.{Claim}
use Rattle.claims.specs.Claim.{IsClaim, greatest_round}
use Rattle.claims.specs.Job as jobs
use Rattle.claims.specs.declared.deps.Dep.{Dep}
use Rattle.package_record.specs.Content.{IsDep, built_line, claim_line, ended}
use Rattle.package_record.specs.Reading.{claim_in, dependency_in}
use Rattle.package_record.proofs.Digests.{sha256_bytes}
use Rattle.package_record.proofs.Lacking.{hex_lacks, lacks-append, name_lacks, path_lacks}
use Rattle.package_record.proofs.ReadFields.{claim_read, decimal_value, dependency_read}
use Rattle.package_record.proofs.ReadWhole.{line_lacks, number_lacks}
use Rattle.package_record.proofs.Steps.{ok_is}
use Rattle.package_record.proofs.Texts.{ended-append}
use Rattle.job_folder.specs.Laws.{IsJob, IsTask, NameTellsTheTask, TaskTextIsFirst, TextTellsTheJob, TextTellsTheTask, TextTellsTheTree}
use Rattle.job_folder.specs.Tasks.{Task, host_line, package_line, task_lines, task_of, task_text, tree_line}
use Rattle.job_folder.proofs.Lines.{Stops, are_lines, heads_are, same_first, same_front, same_lines, same_things}

-- ---- the first word of a line

built_spelled : (d : Dep) → built_line d ≡ codes "@built " ++ (d.path ++ 32 ∷ (d.name ++ 32 ∷ encode_lower d.digest))
built_spelled d =
    append_assoc (codes "@built " ++ d.path ++ codes " " ++ d.name) (codes " ") (encode_lower d.digest)
    ∙ append_assoc (codes "@built " ++ d.path ++ codes " ") d.name (32 ∷ encode_lower d.digest)
    ∙ append_assoc (codes "@built " ++ d.path) (codes " ") (d.name ++ 32 ∷ encode_lower d.digest)

claim_spelled : (c : Claim) → claim_line c ≡ codes "@claim " ++ (decimal c.round ++ 46 ∷ decimal c.member)
claim_spelled c = append_assoc (codes "@claim " ++ decimal c.round) (codes ".") (decimal c.member)

-- the byte after the `@` of the first line, which distinguishes the kinds of lines
abbrev kind : List Text → ℕ
kind [] = 0
kind (line ∷ lines) = get_or line 1 0

-- ---- no line has an LF

tree_lacks : (tree : Text) → has_byte 10 (tree_line tree) ≡ false
tree_lacks tree = hex_lacks 10 tree refl refl

package_lacks : (path : Text) → IsPath path → has_byte 10 path ≡ false
package_lacks path good = path_lacks 10 path refl refl refl good

built_lacks : (d : Dep) → IsDep d → has_byte 10 (built_line d) ≡ false
built_lacks d good =
    ap (has_byte 10) (built_spelled d)
    ∙ lacks-append 10 d.path (32 ∷ (d.name ++ 32 ∷ encode_lower d.digest)) (package_lacks d.path good.path)
    (lacks-append 10 d.name (32 ∷ encode_lower d.digest) (name_lacks 10 d.name refl good.name) (hex_lacks 10 d.digest refl refl))

claim_lacks : (c : Claim) → IsClaim c → has_byte 10 (claim_line c) ≡ false
claim_lacks c good =
    let most : c.round ≤ greatest_round = good.round.1 in
    let few : c.member ≤ 8 = omega (arith, good.member) in
    ap (has_byte 10) (claim_spelled c)
    ∙ lacks-append 10 (decimal c.round) (46 ∷ decimal c.member) (number_lacks c.round (omega arith)) (number_lacks c.member (omega arith))

are_lines_of : {X : Type 0} (f : X → Text) (Is : X → Type 0) → ((x : X) → Is x → has_byte 10 (f x) ≡ false)
    → (xs : List X) → All Is xs → are_lines (map f xs) ≡ true
are_lines_of f Is lack [] are = refl
are_lines_of f Is lack (x ∷ xs) are =
    and_from _ _ (line_lacks (f x) (lack x (are 0 x (omega arith)))) (are_lines_of f Is lack xs (λ k y below. are (suc k) y (omega arith)))

lines_behind : (ls ms : List Text) → are_lines ls ≡ true → are_lines ms ≡ true → are_lines (ls ++ ms) ≡ true
lines_behind ls ms one other = list_all-append (lacks 10) ls ms ∙ and_from _ _ one other

task_has_lines : (tree : Text) (t : Task) → IsTask t → are_lines (task_lines tree t) ≡ true
task_has_lines tree t good =
    and_from _ _ (line_lacks (tree_line tree) (tree_lacks tree))
    (and_from _ _ (line_lacks (codes "@unit " ++ t.unit) (package_lacks t.unit good.unit))
    (lines_behind (map package_line t.packages) (map built_line t.built)
    (are_lines_of package_line IsPath package_lacks t.packages good.packages)
    (are_lines_of built_line IsDep built_lacks t.built good.built)))

-- the lines of a job's host and claim
abbrev last_lines : jobs.Task → List Text
last_lines job = host_line job.host ∷ claim_line job.claim ∷ []

last_are_lines : (job : jobs.Task) → IsJob job → are_lines (last_lines job) ≡ true
last_are_lines job good =
    and_from _ _ (line_lacks (host_line job.host) (number_lacks job.host (omega (arith, good.host))))
    (and_from _ _ (line_lacks (claim_line job.claim) (claim_lacks job.claim good.claim)) refl)

-- ---- what each line determines

same_digits : (xs ys : Text) → IsBytes xs → IsBytes ys → encode_lower xs ≡ encode_lower ys → xs ≡ ys
same_digits xs ys bytes_x bytes_y is =
    let x = decode_of-encode_lower xs bytes_x in
    let y = decode_of-encode_lower ys bytes_y in
    let same : decode_of (encode_lower xs) ≡ decode_of (encode_lower ys) = ap decode_of is in
    cc

tree_tells : (tree other : Text) → IsBytes tree → IsBytes other → tree_line tree ≡ tree_line other → tree ≡ other
tree_tells tree other bytes its is = same_digits tree other bytes its (ap (drop 6) is)

built_tells : (d e : Dep) → IsDep d → IsDep e → built_line d ≡ built_line e → d ≡ e
built_tells d e good other is =
    let same = ap (λ (line : Text). dependency_in 0 (drop 7 line)) (sym (built_spelled d) ∙ is ∙ built_spelled e) in
    ok_is d e (sym (dependency_read 0 d good) ∙ same ∙ dependency_read 0 e other)

package_tells : (p q : Text) → IsPath p → IsPath q → package_line p ≡ package_line q → p ≡ q
package_tells p q good other is = ap (drop 9) is

claim_tells : (c d : Claim) → IsClaim c → IsClaim d → claim_line c ≡ claim_line d → c ≡ d
claim_tells c d good other is =
    let same = ap (λ (line : Text). claim_in 0 (drop 7 line)) (sym (claim_spelled c) ∙ is ∙ claim_spelled d) in
    ok_is c d (sym (claim_read 0 c good) ∙ same ∙ claim_read 0 d other)

host_tells : (g h : ℕ) → g < 2 ^ 64 → h < 2 ^ 64 → host_line g ≡ host_line h → g ≡ h
host_tells g h small other is =
    sym (decimal_value g small) ∙ ap (λ (line : Text). digits_value 10 (drop 6 line)) is ∙ decimal_value h other

-- ---- the lines of a task, and others after them

abbrev with_last : Text → Task → List Text → List Text
with_last tree t last = tree_line tree ∷ ((codes "@unit " ++ t.unit) ∷ (map package_line t.packages ++ (map built_line t.built ++ last)))

-- the line after those of a task is not of their kinds
record IsLast (last : List Text) : Type 0 where
  packages : Stops package_line last
  built : Stops built_line last

none_is_last : IsLast []
none_is_last = record {
  packages = λ path rest is. let no : 0 ≡ 112 = ap kind is in omega (arith, no);
  built = λ d rest is. let no : 0 ≡ 98 = ap kind is in omega (arith, no);
}

host_is_last : (job : jobs.Task) → IsLast (last_lines job)
host_is_last job = record {
  packages = λ path rest is. let no : 104 ≡ 112 = ap kind is in omega (arith, no);
  built = λ d rest is. let no : 104 ≡ 98 = ap kind is in omega (arith, no);
}

built_is_next : (ds : List Dep) (last : List Text) → IsLast last → Stops package_line (map built_line ds ++ last)
built_is_next [] last is_last path rest is = is_last.packages path rest is
built_is_next (d ∷ ds) last is_last path rest is = let no : 98 ≡ 112 = ap kind is in omega (arith, no)

abbrev made : Text → List Text → List Dep → Task
made unit packages built = record { unit = unit; packages = packages; built = built }

-- the lines of the trees are equal, and so are those after them
same_tree : (tree its : Text) (t u : Task) (last other : List Text) → IsBytes tree → IsBytes its
    → with_last tree t last ≡ with_last its u other → tree ≡ its
same_tree tree its t u last other bytes fine is = tree_tells tree its bytes fine (ap (λ (ls : List Text). get_or ls 0 []) is)

same_task : (tree its : Text) (t u : Task) (last other : List Text) → IsTask t → IsTask u → IsLast last → IsLast other
    → with_last tree t last ≡ with_last its u other → (t ≡ u) × (last ≡ other)
same_task tree its t u last other good fine is_last is_other is =
    let lines = heads_are (codes "@unit " ++ t.unit) (codes "@unit " ++ u.unit) (map package_line t.packages ++ (map built_line t.built ++ last))
    (map package_line u.packages ++ (map built_line u.built ++ other)) (ap (drop 1) is) in
    let unit : t.unit ≡ u.unit = ap (drop 6) lines.0 in
    let front = same_front package_line t.packages u.packages _ _ (built_is_next t.built last is_last) (built_is_next u.built other is_other) lines.1 in
    let behind = same_front built_line t.built u.built last other is_last.built is_other.built front.1 in
    let packages = same_things package_line IsPath package_tells t.packages u.packages good.packages fine.packages front.0 in
    let built = same_things built_line IsDep built_tells t.built u.built good.built fine.built behind.0 in
    (ap (λ x. made x t.packages t.built) unit ∙ ap (λ x. made u.unit x t.built) packages ∙ ap (λ x. made u.unit u.packages x) built, behind.1)

without_last : (tree : Text) (t : Task) → task_lines tree t ≡ with_last tree t []
without_last tree t =
    ap (λ (ls : List Text). tree_line tree ∷ ((codes "@unit " ++ t.unit) ∷ (map package_line t.packages ++ ls)))
    (sym (append-nil (map built_line t.built)))

behind_task : (tree : Text) (t : Task) (last : List Text) → task_lines tree t ++ last ≡ with_last tree t last
behind_task tree t last =
    ap (λ (ls : List Text). tree_line tree ∷ ((codes "@unit " ++ t.unit) ∷ ls))
    (append_assoc (map package_line t.packages) (map built_line t.built) last)

-- ---- the laws

pub text_tells_the_tree : TextTellsTheTree
text_tells_the_tree tree other t u bytes fine is =
    tree_tells tree other bytes fine (same_first (tree_line tree) (tree_line other)
    ((codes "@unit " ++ t.unit) ∷ (map package_line t.packages ++ map built_line t.built))
    ((codes "@unit " ++ u.unit) ∷ (map package_line u.packages ++ map built_line u.built))
    (tree_lacks tree) (tree_lacks other) is)

pub text_tells_the_task : TextTellsTheTask
text_tells_the_task tree other t u bytes its good fine is =
    let lines = same_lines (task_lines tree t) (task_lines other u) (task_has_lines tree t good) (task_has_lines other u fine) is in
    let whole = sym (without_last tree t) ∙ lines ∙ without_last other u in (
      same_tree tree other t u [] [] bytes its whole,
      (same_task tree other t u [] [] good fine none_is_last none_is_last whole).0,
    )

abbrev job_of : Task → ℕ → Claim → jobs.Task
job_of t host claim = record { path = t.unit; packages = t.packages; claim = claim; host = host; deps = t.built }

job_has_lines : (tree : Text) (job : jobs.Task) → IsJob job → are_lines (task_lines tree (task_of job) ++ last_lines job) ≡ true
job_has_lines tree job good =
    lines_behind (task_lines tree (task_of job)) (last_lines job) (task_has_lines tree (task_of job) good.task) (last_are_lines job good)

pub text_tells_the_job : TextTellsTheJob
text_tells_the_job tree other j k bytes its good fine is =
    let lines = same_lines (task_lines tree (task_of j) ++ last_lines j) (task_lines other (task_of k) ++ last_lines k)
    (job_has_lines tree j good) (job_has_lines other k fine) is in
    let whole = sym (behind_task tree (task_of j) (last_lines j)) ∙ lines ∙ behind_task other (task_of k) (last_lines k) in
    let parts = same_task tree other (task_of j) (task_of k) (last_lines j) (last_lines k) good.task fine.task (host_is_last j) (host_is_last k) whole in
    let hosts = heads_are (host_line j.host) (host_line k.host) (claim_line j.claim ∷ []) (claim_line k.claim ∷ []) parts.1 in
    let claims = heads_are (claim_line j.claim) (claim_line k.claim) [] [] hosts.1 in
    let host = host_tells j.host k.host (omega (arith, good.host)) (omega (arith, fine.host)) hosts.0 in
    let claim = claim_tells j.claim k.claim good.claim fine.claim claims.0 in
    let same = ap (λ t. job_of t j.host j.claim) parts.0 ∙ ap (λ h. job_of (task_of k) h j.claim) host ∙ ap (λ c. job_of (task_of k) k.host c) claim in
    (same_tree tree other (task_of j) (task_of k) (last_lines j) (last_lines k) bytes its whole, same)

pub name_tells_the_task : NameTellsTheTask
name_tells_the_task tree other t u bytes its good fine is =
    let one = task_text tree t in
    let two = task_text other u in
    let digests = same_digits (sha256 one) (sha256 two) (sha256_bytes one) (sha256_bytes two) is in
    elim (cases_Bool (bytes_eq one two)) [
      | inl same ↦ inl (text_tells_the_task tree other t u bytes its good fine ((bytes_eq-Decides one two).0 same))
      | inr differ ↦ inr (record {
        differ = λ same. true≢false (sym ((bytes_eq-Decides one two).1 same) ∙ differ);
        same = digests;
      })
    ]

pub task_text_is_first : TaskTextIsFirst
task_text_is_first tree job = (ended (last_lines job), ended-append (task_lines tree (task_of job)) (last_lines job))
