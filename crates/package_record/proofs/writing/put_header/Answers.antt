use Rattle.std.proofs.Common.{ap, [], ◌∷◌, ◌∙◌, ◌++◌, List, ℕ, map, append_assoc}
use Rattle.std.specs.List.{flat_map}
use Rattle.package_record.proofs.Texts.{ended_more}
use Rattle.package_record.specs.Content.{built_line, file_lines, front_lines, run_line}
use Rattle.package_record.specs.Views.{content_of}
use Rattle.package_record.proofs.writing.put_header.Goals as goal

pub returns-clause-text : goal.returns-clause-text
returns-clause-text c =
    let r = content_of c.args.fields.now in
    let old = c.args.out.now.items in
    let front = c.in_ok-put_front.ensures.text in
    let built = rw c.as_slice.ensures at c.in_ok-put_dependencies.ensures.text in
    let run = rw c.as_slice-2.ensures.value at c.in_ok-put_run.ensures.text in
    let files = c.in_ok-put_files.ensures in
    let with_built = ended_more old _ _ (front_lines r) (map built_line r.built) front built in
    let with_run = ended_more old _ _ (front_lines r ++ map built_line r.built) (map run_line r.run) with_built run in
    let with_files = ended_more old _ _ (front_lines r ++ map built_line r.built ++ map run_line r.run) (flat_map file_lines r.files) with_run files in
    c.in_ok-push.ensures.items ∙ ap (λ (t : List ℕ). t ++ 10 ∷ []) with_files ∙ append_assoc old _ (10 ∷ [])
