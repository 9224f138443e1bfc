-- What stays of a desk that gives units back.
use Rattle.std.proofs.Common.{◌≡◌, ◌∙◌, ap, sym}
use Rattle.scheduler.specs.Keeping.{IsSameButReturned}
use Rattle.scheduler.specs.declared.desk.Desk.{Desk}

-- what is out may stay, too
pub returned_alone : (old new : Desk)
    → new ≡ record old { returned = new.returned; pressing = new.pressing }
    → IsSameButReturned old new
returned_alone old new is =
    is
    ∙ ap (λ out. record old { out = out; returned = new.returned; pressing = new.pressing })
    (sym (ap (λ (d : Desk). d.out) is))

-- what stays twice stays
pub returned_again : (old between new : Desk) → IsSameButReturned old between
    → IsSameButReturned between new → IsSameButReturned old new
returned_again old between new first second =
    second
    ∙ ap (λ (d : Desk). record d {
      out = new.out;
      returned = new.returned;
      pressing = new.pressing;
    }) first
