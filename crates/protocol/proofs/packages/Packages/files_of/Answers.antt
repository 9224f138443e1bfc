use Rattle.std.proofs.Common.{◌≡◌, ◌<◌, ◌∙◌, ap, arith, get_or, length, subst, sym, true}
use Rattle.std.specs.Str.{bytes_eq}
use Rattle.protocol.proofs.FirstFiles.{first_has, none_has}
use Rattle.protocol.proofs.packages.Packages.files_of.Goals as goal

pub returns-then-eq : goal.returns-then-eq
returns-then-eq c =
    let builds = c.args.self.now in
    let path = c.args.path.now in
    let i = c.loop-given.given-index in
    let g = c.given-item.result in
    let same = c.as_slice-given-items.ensures in
    let below : i < length builds =
    subst (λ ys. i < length ys) same c.loop-given-test.true in
    let is : g ≡ get_or builds i g = subst (λ ys. g ≡ get_or ys i g) same c.given-item.is in
    let has : bytes_eq g.0 path ≡ true = sym c.eq.ensures ∙ c.if-eq.true in
    let first = first_has builds path i g below c.loop-given.invariant
    (subst (λ x. bytes_eq x.0 path ≡ true) is has) in
    (first.0, ap (λ x. x.1) is ∙ first.1)

pub returns : goal.returns
returns c =
    let long : length c.as_slice-given-items.result.now ≡ length c.args.self.now =
    ap length c.as_slice-given-items.ensures in
    none_has c.args.self.now c.args.path.now
    (λ k d a b. c.loop-given.invariant k d (omega (arith, a, long, c.loop-given-test.false)) b)
