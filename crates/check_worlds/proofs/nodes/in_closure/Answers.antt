use Rattle.std.proofs.Common.{◌≡◌, ◌∙◌, Option, None, Some, IsSome, Bor, true, false, is_some, ap, sym, rules}
use Rattle.std.specs.Option.{option_copied}
use Rattle.package_record.specs.Content.{Content}
use Rattle.world.specs.Happening.{up_of}
use Rattle.world.specs.Headline.{InstallableIsHeld}
use Rattle.check_worlds.proofs.Knowing.{at_end}
use Rattle.check_worlds.proofs.nodes.in_closure.Goals as goal

pub returns : goal.returns
returns c x p path at listed shown closure =
    let h = c.args.world.now in
    let w = h.world in
    let is = c.events-taken.ensures.history in
    let installable : InstallableIsHeld w = at_end w.division w.weights _ w InstallableIsHeld
    (c.worlds_have_one_list.ensures.installable w.division w.weights _ w is.made is.led) in
    let up : x.up ≡ true = ap up_of (sym at) ∙ c.requires.up in
    let there = installable c.args.node p x path c.args.other.now at up listed shown closure in
    let same = c.held.ensures x at in
    let copied : is_some (option_copied c.held.result) ≡ true = ap is_some same ∙ there in
    by c.held.result copied
  where
    by : (r : Option (Bor Content)) → is_some (option_copied r) ≡ true → IsSome r
    by None none = absurd (let bad : false ≡ true = none in cc)
    by (Some b) some = search rules
