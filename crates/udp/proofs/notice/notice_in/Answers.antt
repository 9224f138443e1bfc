use Rattle.std.proofs.Common.{◌≡◌, ◌∙◌, ◌-◌, ◌<◌, ◌≤◌, ◌^◌, true, false, ap, arith, drop, length, length-drop, refl, sym, take}
use Rattle.std.specs.Prelude.{slice_index}
use Rattle.std.proofs.lemmas.List.{take_all}
use Rattle.std.proofs.lemmas.Slice.Eq.{bytes_eq-Decides}
use Rattle.byteorder.specs.Endian.{big_number}
use Rattle.udp.specs.Notices.{notice_text}
use Rattle.udp.specs.declared.notice.Listing.{Listing}
use Rattle.udp.specs.declared.notice.Notice.{Notice}
use Rattle.udp.proofs.NoticeTexts.{is_read_one, length-digest}
use Rattle.udp.proofs.notice.notice_in.Goals.{else-notice-units-via-then-notice-units+else-eq, else-notice-units-via-else-notice-units}
use Rattle.udp.proofs.notice.notice_in.Goals as goal

pub returns-else-notice-units : goal.returns-else-notice-units
returns-else-notice-units c = λ notice is.
    let read : Notice = record { member = slice_index c.args.text.now 36; unit = c.read_u32.result } in
    let listing : Listing = record { digest = c.args.digest.now; units = c.args.units } in
    let long : length c.args.text.now ≡ 41 = c.if-text-ne-NOTICE_SIZE.false in
    let behind : take (length c.args.text.now - 37) (drop 37 c.args.text.now) ≡ drop 37 c.args.text.now =
    take_all (length c.args.text.now - 37) (drop 37 c.args.text.now) (omega (arith, length-drop 37 c.args.text.now)) in
    let unit : c.read_u32.result ≡ big_number 4 (drop 37 c.args.text.now) = c.read_u32.ensures ∙ ap (big_number 4) behind in
    let few : c.args.units < 2 ^ 32 = c.ranges.units.fits in
    let one : read ≡ notice =
    is_read_one listing c.args.text.now read notice (length-digest c.args.digest.now c.args.text.now notice long is.0) few refl unit is in
    elim c.else-notice-units.branch [
      | else-notice-units-via-then-notice-units+else-eq w ↦
          let same : w.as_slice.result.now ≡ c.args.text.now =
          w.as_slice.ensures.value ∙ (w.text_of.ensures ∙ (ap (notice_text c.args.digest.now) one ∙ sym is.0)) in
          absurd (let bad : false ≡ true = sym w.if-eq.false ∙ (w.eq.ensures ∙ (bytes_eq-Decides w.as_slice.result.now c.args.text.now).1 same) in cc)
      | else-notice-units-via-else-notice-units w ↦
          let number : c.read_u32.result ≡ notice.unit = ap (λ (n : Notice). n.unit) one in
          let high : c.args.units ≤ c.read_u32.result = w.if-notice-units.false in
          let low : notice.unit < c.args.units = is.1 in
          omega (arith, number, high, low)
    ]
