use Rattle.std.proofs.Common.{◌≡◌, ◌+◌, ◌<◌, All, List, [], ◌∷◌, ◌++◌, Option, Ok, Err, length, sym, ap, subst, ◌∙◌, arith, rules, inr, map-id}
use Rattle.std.proofs.lemmas.List.{map-append}
use Rattle.std.proofs.lemmas.List.Elements.{All-append, All-cons, All-nil}
use Rattle.std.proofs.lemmas.Iterator.Adapters.{YieldsList-from_vec}
use Rattle.std.proofs.lemmas.Iterator.Consumers.{YieldsList-end, YieldsList-so_far, YieldsList-turn}
use Rattle.std.proofs.lemmas.Result.{err_from_is_err_and}
use Rattle.faults.specs.Answers.{unless_fault}
use Rattle.package_record.specs.Build.{build_text, lines_before, records_text}
use Rattle.package_record.specs.Content.{Content, IsRecord, most_bytes, record_text}
use Rattle.package_record.specs.Making.{too_large}
use Rattle.package_record.specs.Packages.{content_from, contents_of}
use Rattle.package_record.specs.declared.RecordFault.{RecordFault}
use Rattle.package_record.specs.declared.RecordFault.TheVariants.{Memory}
use Rattle.package_record.proofs.BuildTexts.{text_length, text_push}
use Rattle.package_record.proofs.BuildsMade.{over as over_limit, refused_for_length, too_long}
use Rattle.package_record.proofs.BuildsTaken.{unless_ok}
use Rattle.package_record.proofs.NextRecords.{fault_none, passed_as}
use Rattle.package_record.proofs.gathering.gather.Goals as goal

pub returns-then-bytes-gt-LIMIT-clause-records : goal.returns-then-bytes-gt-LIMIT-clause-records
returns-then-bytes-gt-LIMIT-clause-records c =
    let ps = c.args.packages.items in
    let ys = c.loop-package.yielded in
    let p = c.in-Some.package in
    let yields = YieldsList-from_vec {s = c.into_iter-package-iterator.result} ps (search rules) (search rules) in
    let turn = YieldsList-turn yields ys c.loop-package.package-iterator c.loop-package.yielded_by c.next.result c.next.new.self p c.in-Some.is c.next.ensures.steps in
    let front = sym (map-id ys) ∙ YieldsList-so_far yields ys c.loop-package.package-iterator c.loop-package.yielded_by in
    let made = unless_ok (too_large (length (record_text (content_from c.args.host c.args.claim c.args.built.now p)))) (content_from c.args.host c.args.claim c.args.built.now p) c.in_ok-record.record c.in_ok-record.ensures.record in
    let cs = contents_of c.args.host c.args.claim c.args.built.now ps in
    let content = content_from c.args.host c.args.claim c.args.built.now p in
    let long : most_bytes < length (records_text (contents_of c.args.host c.args.claim c.args.built.now ys)) + length (record_text content) = omega (arith, c.saturating_add-bytes.ensures, c.if-bytes-gt-LIMIT.true, c.loop-package.invariant.bytes, ap (λ (ds : List Content). length (records_text ds)) c.loop-package.invariant.records, c.in_ok-record.ensures.length, ap (λ (d : Content). length (record_text d)) made.1) in
    inr (ap (λ (o : Option RecordFault). unless_fault o cs) (too_long c.args.host c.args.claim c.args.built.now ps ys p front turn.0 turn.1 long))

pub returns-in_err-record-clause-records : goal.returns-in_err-record-clause-records
returns-in_err-record-clause-records c =
    let ps = c.args.packages.items in
    let ys = c.loop-package.yielded in
    let p = c.in-Some.package in
    let e = c.in_err-record.field-0.0 in
    let yields = YieldsList-from_vec {s = c.into_iter-package-iterator.result} ps (search rules) (search rules) in
    let turn = YieldsList-turn yields ys c.loop-package.package-iterator c.loop-package.yielded_by c.next.result c.next.new.self p c.in-Some.is c.next.ensures.steps in
    let front = sym (map-id ys) ∙ YieldsList-so_far yields ys c.loop-package.package-iterator c.loop-package.yielded_by in
    let content = content_from c.args.host c.args.claim c.args.built.now p in
    let cs = contents_of c.args.host c.args.claim c.args.built.now ps in
    let told = err_from_is_err_and c.from_residual-in_err-record.result c.from_residual-in_err-record.ensures.1 in
    rw told.1 (passed_as Memory e told.0 told.2 (unless_fault (too_large (length (record_text content))) content) (unless_fault (too_large (length (build_text cs))) cs)
    (λ h.
    let refused = refused_for_length (length (record_text content)) content e h in
    let long : most_bytes < length (records_text (contents_of c.args.host c.args.claim c.args.built.now ys)) + length (record_text content) = omega (arith, refused.0) in
    ap (λ (o : Option RecordFault). unless_fault o cs) (too_long c.args.host c.args.claim c.args.built.now ps ys p front turn.0 turn.1 long) ∙ ap Err (sym refused.1))
    c.in_err-record.ensures.record)

pub loop-package-preserved : goal.loop-package-preserved
loop-package-preserved c =
    let ys = c.loop-package.yielded in
    let p = c.in-Some.package in
    let r = c.in_ok-record.record in
    let made = unless_ok (too_large (length (record_text (content_from c.args.host c.args.claim c.args.built.now p)))) (content_from c.args.host c.args.claim c.args.built.now p) c.in_ok-record.record c.in_ok-record.ensures.record in
    let pushed = c.in_ok-push.ensures.items in
    let old = c.loop-package.records.items in
    let P : List Content → Type 0 = All IsRecord in
    let bytes : c.saturating_add-bytes.result ≡ length (records_text (old ++ r ∷ [])) =
    omega (arith, c.saturating_add-bytes.ensures, c.if-bytes-gt-LIMIT.false, c.loop-package.invariant.bytes, c.in_ok-record.ensures.length, text_push old r) in
    record {
      records = pushed ∙ ap (λ (ds : List Content). ds ++ r ∷ []) c.loop-package.invariant.records
          ∙ ap (λ (d : Content). contents_of c.args.host c.args.claim c.args.built.now ys ++ d ∷ []) (sym made.1)
          ∙ sym (map-append (content_from c.args.host c.args.claim c.args.built.now) ys (p ∷ []));
      good = subst P (sym pushed) (All-append IsRecord old (r ∷ []) c.loop-package.invariant.good (All-cons IsRecord r [] c.in_ok-record.ensures.good (All-nil IsRecord)));
      bytes = bytes ∙ ap (λ (ds : List Content). length (records_text ds)) (sym pushed);
      within = c.if-bytes-gt-LIMIT.false;
    }

pub returns-in_err-test_length-clause-records : goal.returns-in_err-test_length-clause-records
returns-in_err-test_length-clause-records c =
    let ps = c.args.packages.items in
    let ys = c.loop-package.yielded in
    let cs = contents_of c.args.host c.args.claim c.args.built.now ps in
    let rs = c.loop-package.records.items in
    let e = c.in_err-test_length.field-0.0 in
    let ends = YieldsList-end (YieldsList-from_vec {s = c.into_iter-package-iterator.result} ps (search rules) (search rules)) ys c.loop-package.package-iterator c.loop-package.yielded_by c.next.result c.next.new.self c.in-None.is c.next.ensures.steps in
    let all : rs ≡ cs = c.loop-package.invariant.records ∙ ap (contents_of c.args.host c.args.claim c.args.built.now) (sym (map-id ys) ∙ ends.0) in
    let count : c.len-2.result ≡ length rs = omega (arith, c.len-2.ensures, c.loop-package.records.ok.0) in
    let size : length (build_text cs) ≡ length (lines_before c.len-2.result) + c.loop-package.bytes =
    sym (ap (λ (ds : List Content). length (build_text ds)) all) ∙ text_length rs ∙ omega (arith, c.loop-package.invariant.bytes, ap (λ n. length (lines_before n)) count) in
    let told = err_from_is_err_and c.from_residual-in_err-test_length.result c.from_residual-in_err-test_length.ensures.1 in
    rw told.1 (passed_as Memory e told.0 told.2 (unless_fault (too_large (length (lines_before c.len-2.result) + c.loop-package.bytes)) tt) (unless_fault (too_large (length (build_text cs))) cs)
    (λ h. let refused = refused_for_length (length (lines_before c.len-2.result) + c.loop-package.bytes) tt e h in
    let over : most_bytes < length (build_text cs) = omega (arith, refused.0, size) in
    ap (λ (o : Option RecordFault). unless_fault o cs) (over_limit (length (build_text cs)) over) ∙ ap Err (sym refused.1))
    c.in_err-test_length.ensures)

pub returns-clause-records : goal.returns-clause-records
returns-clause-records c =
    let ps = c.args.packages.items in
    let ys = c.loop-package.yielded in
    let cs = contents_of c.args.host c.args.claim c.args.built.now ps in
    let rs = c.loop-package.records.items in
    let ends = YieldsList-end (YieldsList-from_vec {s = c.into_iter-package-iterator.result} ps (search rules) (search rules)) ys c.loop-package.package-iterator c.loop-package.yielded_by c.next.result c.next.new.self c.in-None.is c.next.ensures.steps in
    let all : rs ≡ cs = c.loop-package.invariant.records ∙ ap (contents_of c.args.host c.args.claim c.args.built.now) (sym (map-id ys) ∙ ends.0) in
    let count : c.len-2.result ≡ length rs = omega (arith, c.len-2.ensures, c.loop-package.records.ok.0) in
    let size : length (build_text cs) ≡ length (lines_before c.len-2.result) + c.loop-package.bytes =
    sym (ap (λ (ds : List Content). length (build_text ds)) all) ∙ text_length rs ∙ omega (arith, c.loop-package.invariant.bytes, ap (λ n. length (lines_before n)) count) in
    let none = fault_none (too_large (length (lines_before c.len-2.result) + c.loop-package.bytes)) tt tt c.in_ok-test_length.ensures in
    ap (λ (o : Option RecordFault). unless_fault o cs) (ap too_large size ∙ none) ∙ ap Ok (sym all)
