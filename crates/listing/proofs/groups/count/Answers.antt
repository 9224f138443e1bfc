use Rattle.std.proofs.Common.{◌≡◌, ◌+◌, ◌∙◌, ap, sym, subst, arith, unwrap_or}
use Rattle.std.specs.List.{position_or_len}
use Rattle.std.specs.Map.{keys_of}
use Rattle.std.specs.Str.{bytes_eq}
use Rattle.std.proofs.lemmas.List.Sums.{count_by-le-length}
use Rattle.indexmap.specs.IndexSet.{insert_key}
use Rattle.listing.specs.inside.Groups.{size_in}
use Rattle.listing.specs.inside.Parts.{Grows, IsNumberOf}
use Rattle.listing.proofs.Counting.{grows-insert, keys-insert, number-insert, sizes_more}
use Rattle.listing.proofs.groups.count.Goals as goal

pub overflow_add-size : goal.overflow_add-size
overflow_add-size c =
    let was : c.unwrap_or-size.result ≡ size_in c.requires.0 c.args.group =
    c.unwrap_or-size.ensures ∙ ap (λ o. unwrap_or o 0) (c.copied.ensures ∙ c.get.ensures.value) ∙ c.requires.1.counts c.args.group in
    omega (arith, was, count_by-le-length (λ name. bytes_eq name c.args.group) c.requires.0, c.requires.2)

pub returns : goal.returns
returns c = λ names h.
    let old = c.args.sizes.now.entries in
    let new = c.insert_full.new.self.entries in
    let size = c.unwrap_or-size.result + 1 in
    let is : size ≡ size_in names c.args.group + 1 =
    ap (λ n. n + 1) (c.unwrap_or-size.ensures ∙ ap (λ o. unwrap_or o 0) (c.copied.ensures ∙ c.get.ensures.value) ∙ h.counts c.args.group) in
    let keys : keys_of new ≡ insert_key bytes_eq (keys_of old) c.args.group = ap keys_of c.in_ok-inserted.ensures.entries ∙ keys-insert old c.args.group size in (
      sizes_more names c.args.group old new size h c.in_ok-inserted.ensures.entries is c.in_ok-inserted.ensures.updates.0,
      subst (λ n. IsNumberOf (keys_of new) n c.args.group) (sym c.in_ok-inserted.ensures.index)
          (subst (λ ks. IsNumberOf ks (position_or_len (bytes_eq c.args.group) (keys_of old)) c.args.group) (sym keys) (number-insert (keys_of old) c.args.group)),
      subst (Grows (keys_of old)) (sym keys) (grows-insert (keys_of old) c.args.group),
    )
