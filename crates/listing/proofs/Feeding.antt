-- What a hasher is fed, piece by piece.
use Rattle.std.proofs.Common.{◌++◌, [], sym, subst, append_assoc}
use Rattle.std.proofs.lemmas.List.{append-nil}
use Rattle.sha2.specs.Hashers.{Holds256}
use Rattle.sha2.specs.declared.Sha256.{Sha256}
use Rattle.faults.specs.Bytes.{Text}
use Rattle.listing.specs.inside.Hashing.{Takes}

pub takes_nothing : (hasher : Sha256) → Takes hasher hasher []
takes_nothing hasher = record { more = λ message holds. subst (Holds256 hasher) (sym (append-nil message)) holds }

pub takes_more : (first second third : Sha256) (s t : Text) → Takes first second s → Takes second third t → Takes first third (s ++ t)
takes_more first second third s t front back =
    record { more = λ message holds. subst (Holds256 third) (append_assoc message s t) (back.more (message ++ s) (front.more message holds)) }
