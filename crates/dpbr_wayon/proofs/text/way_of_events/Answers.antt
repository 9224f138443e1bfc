use Rattle.std.proofs.Common.{inl, inr}
use Rattle.dpbr_wayon.proofs.text.way_of_events.Goals as goal

pub returns-in-Err-clause-refused : goal.returns-in-Err-clause-refused
returns-in-Err-clause-refused c =
    inr (inl (record {
      fault = c.in-Err.fault;
      is_fault = c.in-Err.ensures.refused;
      told = λ j. record { number = c.of.ensures.number j; place = c.of.ensures.place j };
    }))
