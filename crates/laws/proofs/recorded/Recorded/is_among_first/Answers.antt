use Rattle.std.proofs.Common.{◌<◌, ◌∙◌, ap, arith, length, map, refl, sym}
use Rattle.std.proofs.lemmas.Option.{slice_get-map, slice_get_read}
use Rattle.std.specs.Cmp.Lexicographic.{same_text}
use Rattle.std.specs.Prelude.{option_map}
use Rattle.datagram_ports.specs.Kept.{Parcel}
use Rattle.datagram_ports.specs.declared.mem_port.Sending.{Sending}
use Rattle.laws.proofs.recorded.Recorded.is_among_first.Goals as goal

-- a datagram that was offered, as the record has it
abbrev parcel_of : Sending → Parcel
parcel_of s = record { from = s.from; to = s.to; text = s.bytes.items }

pub returns-then-eq : goal.returns-then-eq
returns-then-eq g c = λ e.
    let offered = c.in-Some.offered.now in
    let place = c.loop-place.place in
    let sending = c.index-offered-place.result in
    let within : place < length offered = omega (arith, c.loop-place-test.true, c.loop-place.auto.place-end) in (
      map parcel_of offered,
      c.in-Some.ensures,
      place,
      c.if-place-first.true,
      parcel_of sending,
      slice_get-map parcel_of offered place
          ∙ ap (option_map parcel_of)
          (slice_get_read offered (length offered) place sending refl within c.index-offered-place.is),
      sym c.as_slice.ensures.value
          ∙ same_text c.as_slice.result.now c.args.bytes.now (sym c.if-eq.true ∙ c.eq.ensures),
    )
