use Rattle.std.proofs.lemmas.Result.{IfErr-weaker}
use Rattle.dpbn_key.proofs.Refused.{lacks_key}
use Rattle.dpbn_key.proofs.reading.key_of_file.Goals as goal

pub returns-clause-refused : goal.returns-clause-refused
returns-clause-refused g c =
    let file = c.in_ok-file in
    IfErr-weaker c.key_in.result _ _
    (λ f why. lacks_key (g.K.KeyFiles.gave c.args.files.now) c.args.name.now _ _ _
    c.in_ok-file.ensures.gave c.in_ok-test_mode.ensures.private c.as_slice.ensures.value f why)
    c.key_in.ensures.no_key
