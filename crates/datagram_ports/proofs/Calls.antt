-- Sequences of calls to a port.
use Rattle.std.proofs.Common.{◌++◌, List, [], ◌∷◌, subst}
use Rattle.datagram_ports.specs.Calls.{Call, WentThrough}

module _ {P : Type 0} (does : P → Call → P → Type 0) where
  -- these calls, and then more
  pub WentThrough-append : (old between new : P) (calls more : List Call) → WentThrough does old calls between → WentThrough does between more new → WentThrough does old (calls ++ more) new
  WentThrough-append old between new [] more same later =
      subst (λ (p : P). WentThrough does p more new) same later
  WentThrough-append old between new (call ∷ calls) more (next, done, before) later =
      (next, done, WentThrough-append next between new calls more before later)
