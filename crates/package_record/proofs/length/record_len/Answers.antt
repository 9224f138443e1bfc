use Rattle.std.proofs.Common.{◌+◌, List, ap, flat_map, length, arith}
use Rattle.std.proofs.lemmas.List.{length-append}
use Rattle.package_record.specs.Content.{NamedFile, header_text}
use Rattle.package_record.specs.FileView.{file_view}
use Rattle.package_record.proofs.TextLengths.{some_more, some_within}
use Rattle.package_record.proofs.length.record_len.Goals as goal

pub overflow_add-len : goal.overflow_add-len
overflow_add-len c =
    let part = c.args.part.now in
    let xs = c.files-file-items.result.now in
    let i = c.loop-file.file-index in
    let more = some_more file_view xs i c.file-item.result c.loop-file-test.true c.file-item.is in
    let within = some_within file_view xs (i + 1) in
    let files = ap (λ (fs : List NamedFile). length (flat_map (λ (g : NamedFile). g.bytes) fs))
    c.files-file-items.ensures in
    let all = length-append (header_text part) (flat_map (λ (g : NamedFile). g.bytes) part.files) in
    omega (
      arith,
      more,
      within,
      files,
      all,
      c.loop-file.invariant,
      c.len-len-in-loop-file.ensures,
      c.requires,
    )
