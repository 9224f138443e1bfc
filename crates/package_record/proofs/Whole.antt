-- What is parsed is its text.
use Rattle.std.proofs.Common.{◌≡◌, ℕ, zero, suc, ◌+◌, ◌-◌, ◌<◌, ◌≤◌, true, cond, ltb, List, [], ◌∷◌, ◌++◌, length, take, drop, map, Ok, Err, refl, sym, ap, subst, ◌∙◌, append_assoc, arith}
use Rattle.std.specs.List.{flat_map, join_with_byte}
use Rattle.std.proofs.lemmas.Bool.{ltb-false}
use Rattle.std.proofs.lemmas.List.{append-nil, drop_at, length-append, take_at}
use Rattle.std.proofs.lemmas.List.Splits.{join_with_byte-slice_split}
use Rattle.faults.specs.Bytes.{Text, is_empty}
use Rattle.faults.specs.Pieces.{pieces_at}
use Rattle.claims.specs.declared.deps.Dep.{Dep}
use Rattle.package_record.specs.Content.{AreFileNames, Content, IsRecord, NamedFile, built_line, ended, file_lines, header_lines, most_bytes, names_of, record_text, run_line}
use Rattle.package_record.specs.Reading.{Front, Head, Header, Place, ◌>>=◌, all_at, built_at, content_of_parts, file_at, files_in, first_of, front_at, header_of, run_at, total_of, whole_of}
use Rattle.package_record.specs.declared.RecordFault.TheVariants.{TooLarge, Trailing, Truncated}
use Rattle.package_record.proofs.Steps.{bind_ok, ok_is, refusal_ok, test_ok}
use Rattle.package_record.proofs.Taken.{head_lines}
use Rattle.package_record.proofs.HeaderLines.{AreDeps, ArePaths, HaveNames, IsFront, all_built, all_files, all_run, files_taken, front_taken, lines_of}

-- ---- the lines as a text

pub join_behind : (l : Text) (ls : List Text) → 0 < length ls → join_with_byte 10 (l ∷ ls) ≡ l ++ 10 ∷ join_with_byte 10 ls
join_behind l [] some = absurd (omega arith)
join_behind l (m ∷ ls) some = refl

-- the header's lines, the empty line, and the rest
join_ended : (hs qs : List Text) → 0 < length qs → join_with_byte 10 (hs ++ ([] ∷ qs)) ≡ ended hs ++ 10 ∷ join_with_byte 10 qs
unfolding ended
join_ended [] qs some = join_behind [] qs some
join_ended (h ∷ hs) qs some =
    join_behind h (hs ++ ([] ∷ qs)) (omega (arith, length-append hs ([] ∷ qs)))
    ∙ ap (λ (t : Text). h ++ 10 ∷ t) (join_ended hs qs some)
    ∙ sym (append_assoc h (10 ∷ []) (flat_map (λ line. line ++ 10 ∷ []) hs ++ 10 ∷ join_with_byte 10 qs))
    ∙ sym (append_assoc (h ++ 10 ∷ []) (flat_map (λ line. line ++ 10 ∷ []) hs) (10 ∷ join_with_byte 10 qs))

abbrev header_of_parts : Header → List Text
header_of_parts h = lines_of h.front ++ map built_line h.built ++ map run_line h.run ++ flat_map head_lines h.heads

-- what holds of a header that was parsed
record IsHeader (h : Header) : Type 0 where
  front : IsFront h.front
  built : AreDeps h.built
  run : ArePaths h.run
  names : HaveNames h.heads

header_taken : (text : Text) (x : Header × Text) → header_of text ≡ Ok x → (text ≡ ended (header_of_parts x.0) ++ 10 ∷ x.1) × IsHeader x.0
unfolding header_of
header_taken text x e =
    let start : Place = record { passed = 0; lines = pieces_at 10 text } in
    let a = bind_ok (front_at start) (λ front. all_at built_at front.1 >>= λ built. all_at run_at built.1 >>= λ run. all_at file_at run.1 >>= λ heads. Ok (made front.0 built.0 run.0 heads.0, join_with_byte 10 heads.1.lines)) x e in
    let b = bind_ok (all_at built_at a.0.1) (λ built. all_at run_at built.1 >>= λ run. all_at file_at run.1 >>= λ heads. Ok (made a.0.0 built.0 run.0 heads.0, join_with_byte 10 heads.1.lines)) x a.2 in
    let f = bind_ok (all_at run_at b.0.1) (λ run. all_at file_at run.1 >>= λ heads. Ok (made a.0.0 b.0.0 run.0 heads.0, join_with_byte 10 heads.1.lines)) x b.2 in
    let g = bind_ok (all_at file_at f.0.1) (λ heads. Ok (made a.0.0 b.0.0 f.0.0 heads.0, join_with_byte 10 heads.1.lines)) x f.2 in
    let front = front_taken start a.0 a.1 in
    let built = all_built a.0.1 b.0.0 b.0.1 b.1 in
    let run = all_run b.0.1 f.0.0 f.0.1 f.1 in
    let heads = all_files f.0.1 g.0.0 g.0.1 g.1 in
    let lines : pieces_at 10 text ≡ header_of_parts (made a.0.0 b.0.0 f.0.0 g.0.0) ++ ([] ∷ g.0.1.lines) =
    front.0 ∙ ap (λ (ls : List Text). lines_of a.0.0 ++ ls) (built.0 ∙ ap (λ (ls : List Text). map built_line b.0.0 ++ ls) (run.0 ∙ ap (λ (ls : List Text). map run_line f.0.0 ++ ls) heads.0))
    ∙ grouped (lines_of a.0.0) (map built_line b.0.0) (map run_line f.0.0) (flat_map head_lines g.0.0) ([] ∷ g.0.1.lines) in
    let whole : text ≡ ended (header_of_parts (made a.0.0 b.0.0 f.0.0 g.0.0)) ++ 10 ∷ join_with_byte 10 g.0.1.lines =
    sym (join_with_byte-slice_split 10 text) ∙ ap (join_with_byte 10) lines ∙ join_ended (header_of_parts (made a.0.0 b.0.0 f.0.0 g.0.0)) g.0.1.lines heads.2 in
    let good : IsHeader (made a.0.0 b.0.0 f.0.0 g.0.0) = record { front = front.1; built = built.1; run = run.1; names = heads.1 } in
    subst (λ (y : Header × Text). (text ≡ ended (header_of_parts y.0) ++ 10 ∷ y.1) × IsHeader y.0) (ok_is (made a.0.0 b.0.0 f.0.0 g.0.0, join_with_byte 10 g.0.1.lines) x g.2) (whole, good)
  where
    made : Front → List Dep → List Text → List Head → Header
    made front built run heads = record { front = front; built = built; run = run; heads = heads }

    grouped : (a b c d e : List Text) → a ++ (b ++ (c ++ (d ++ e))) ≡ (((a ++ b) ++ c) ++ d) ++ e
    grouped a b c d e = sym (simp append_assoc)

-- all that makes the parts a record, except for its length
record Says (h : Header) (bytes : Text) (c : Content) (rest : Text) : Type 0 where
  text : ended (header_of_parts h) ++ 10 ∷ bytes ≡ record_text c ++ rest
  size : length bytes ≡ total_of h + length rest
  fits : length (record_text c) ≤ most_bytes → IsRecord c

content_taken : (h : Header) (bytes : Text) (x : Content × Text) → IsHeader h → content_of_parts h bytes ≡ Ok x → Says h bytes x.0 x.1
unfolding content_of_parts
content_taken h bytes x good e =
    let a = refusal_ok (ltb (length bytes) (total_of h)) Truncated (files_in [] h.heads bytes >>= λ files. Ok (made files.0, files.1)) x e in
    let b = bind_ok (files_in [] h.heads bytes) (λ files. Ok (made files.0, files.1)) x a.1 in
    let bodies = files_taken [] h.heads bytes b.0.0 b.0.1 (ltb-false _ _ a.0) b.1 in
    let c = made b.0.0 in
    let lines : header_of_parts h ≡ header_lines c =
    ap (λ (ls : List Text). lines_of h.front ++ map built_line h.built ++ map run_line h.run ++ ls) (bodies.lines ∙ ap (flat_map file_lines) (sym bodies.all)) in
    let names : map (λ h. h.name) h.heads ≡ names_of b.0.0 = bodies.names ∙ ap names_of (sym bodies.all) in
    let parts : bytes ≡ flat_map (λ f. f.bytes) b.0.0 ++ b.0.1 = bodies.parts ∙ ap (λ (fs : List NamedFile). flat_map (λ f. f.bytes) fs ++ b.0.1) (sym bodies.all) in
    let text : ended (header_of_parts h) ++ 10 ∷ bytes ≡ record_text c ++ b.0.1 =
    ap (λ (ls : List Text). ended ls ++ 10 ∷ bytes) lines ∙ ap (λ (t : Text). ended (header_lines c) ++ 10 ∷ t) parts
    ∙ regrouped (ended (header_lines c)) (flat_map (λ f. f.bytes) b.0.0) b.0.1 in
    let size : length bytes ≡ total_of h + length b.0.1 =
    omega (arith, bodies.sizes, ap length bodies.parts, length-append (flat_map (λ f. f.bytes) bodies.more) b.0.1) in
    let fits : length (record_text c) ≤ most_bytes → IsRecord c = λ short. record {
      names = record { path = good.front.path; name = good.front.name; built = good.built.deps; run = good.run.paths };
      host = good.front.host;
      claim = good.front.claim;
      built = good.built.order;
      run = good.run.order;
      file_names = subst AreFileNames names good.names;
      fits = short;
    } in
    subst (λ (y : Content × Text). Says h bytes y.0 y.1) (ok_is (c, b.0.1) x b.2) (record { text = text; size = size; fits = fits })
  where
    made : List NamedFile → Content
    made files = record {
      path = h.front.path;
      name = h.front.name;
      host = h.front.host;
      claim = h.front.claim;
      built = h.built;
      run = h.run;
      files = files;
    }

    regrouped : (a b c : Text) → a ++ 10 ∷ (b ++ c) ≡ a ++ 10 ∷ [] ++ b ++ c
    regrouped a b c = sym (simp append_assoc)

pub empty_is : (text : Text) → is_empty text ≡ true → text ≡ []
empty_is [] e = refl
empty_is (b ∷ text) e = absurd cc

-- a text that is parsed as a whole is that of the record
pub whole_taken : (text : Text) (c : Content) → whole_of text ≡ Ok c → IsRecord c × (text ≡ record_text c)
unfolding whole_of
whole_taken text c e =
    let a = refusal_ok (ltb most_bytes (length text)) TooLarge (header_of text >>= λ header. content_of_parts header.0 header.1 >>= λ content. cond (is_empty content.1) (Ok content.0) (Err Trailing)) c e in
    let b = bind_ok (header_of text) (λ header. content_of_parts header.0 header.1 >>= λ content. cond (is_empty content.1) (Ok content.0) (Err Trailing)) c a.1 in
    let f = bind_ok (content_of_parts b.0.0 b.0.1) (λ content. cond (is_empty content.1) (Ok content.0) (Err Trailing)) c b.2 in
    let t = test_ok (is_empty f.0.1) Trailing (Ok f.0.0) c f.2 in
    let header = header_taken text b.0 b.1 in
    let says = content_taken b.0.0 b.0.1 f.0 header.1 f.1 in
    let spelled : text ≡ record_text f.0.0 = header.0 ∙ says.text ∙ ap (λ (t : Text). record_text f.0.0 ++ t) (empty_is f.0.1 t.0) ∙ append-nil (record_text f.0.0) in
    let short : length text ≤ most_bytes = ltb-false _ _ a.0 in
    let whole : IsRecord f.0.0 × (text ≡ record_text f.0.0) = (says.fits (omega (arith, ap length spelled, short)), spelled) in
    subst (λ (c : Content). IsRecord c × (text ≡ record_text c)) (ok_is f.0.0 c t.1) whole

-- a text that is parsed at the front begins with that of the record
pub first_taken : (text : Text) (x : Content × Text) → first_of text ≡ Ok x → IsRecord x.0 × (text ≡ record_text x.0 ++ x.1)
unfolding first_of
first_taken text x e =
    let b = bind_ok (header_of text) (λ header. cond (ltb most_bytes (length text - length header.1 + total_of header.0)) (Err TooLarge) (content_of_parts header.0 header.1)) x e in
    let a = refusal_ok (ltb most_bytes (length text - length b.0.1 + total_of b.0.0)) TooLarge (content_of_parts b.0.0 b.0.1) x b.2 in
    let header = header_taken text b.0 b.1 in
    let says = content_taken b.0.0 b.0.1 x header.1 a.1 in
    let spelled : text ≡ record_text x.0 ++ x.1 = header.0 ∙ says.text in
    let short : length text - length b.0.1 + total_of b.0.0 ≤ most_bytes = ltb-false _ _ a.0 in
    let long : length text ≡ length (ended (header_of_parts b.0.0)) + suc (length b.0.1) = ap length header.0 ∙ length-append (ended (header_of_parts b.0.0)) (10 ∷ b.0.1) in
    (says.fits (omega (arith, ap length spelled, length-append (record_text x.0) x.1, short, long, says.size)), spelled)

-- the front of a text, given the length of the rest
pub front_cut : (text front rest : Text) (n : ℕ) → text ≡ front ++ rest → n ≡ length text - length rest → (n ≡ length front) × (take n text ≡ front) × (drop n text ≡ rest)
front_cut text front rest n e size =
    let len : length front ≡ n = omega (arith, ap length e, length-append front rest, size) in
    (sym len, ap (take n) e ∙ take_at front rest n len, ap (drop n) e ∙ drop_at front rest n len)
