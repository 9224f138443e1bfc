use Rattle.std.proofs.Common.{◌∙◌, rules, tests}
use Rattle.std.specs.List.{list_any}
use Rattle.std.specs.Str.{bytes_eq}
use Rattle.std.proofs.lemmas.Iterator.{YieldsList-from_slice}
use Rattle.std.proofs.lemmas.Iterator.Search.{any_from_yields_List}
use Rattle.package_record.specs.Content.{Content}
use Rattle.simulator.proofs.Entering.{any_have}
use Rattle.simulator.specs.inside.Tables.{list_in}
use Rattle.simulator.proofs.tables.Tables.has_any.Goals as goal

pub returns : goal.returns
returns c =
    let keys = c.args.self.now.listed.keys in
    any_from_yields_List (λ (r : Content). list_any (bytes_eq r.path) keys) _ _ c.any.result
    c.any.ensures.ran (YieldsList-from_slice c.args.packages.now cc)
    (λ x b q k. search (rules, tests))
    ∙ any_have (list_in c.args.self.now) c.args.packages.now keys c.requires
