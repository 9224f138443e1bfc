-- How the result of a parsing function relates to the specification.
use Rattle.std.specs.Prelude.{◌≡◌, Result, Ok, Err}
use Rattle.package_record.specs.declared.RecordFault.{RecordFault}
use Rattle.package_record.specs.declared.RecordFault.TheVariants.{Memory}
use Rattle.package_record.specs.declared.fault.ReadError.{ReadError}
use Rattle.package_record.specs.declared.fault.ReadError.TheVariants as errors

-- the specification gives this fault, or memory ran out
abbrev pub Fails : {Y : Type 0} → ReadError → Result Y RecordFault → Type 0
Fails errors.Memory read = Unit {0}
Fails (errors.Fault f) read = read ≡ Err f

-- The result, mapped by view, is what the specification gives, or memory ran out.
abbrev pub Gives :
    {X Y : Type 0} → (X → Y) → Result X ReadError → Result Y RecordFault → Type 0
Gives view (Ok x) read = read ≡ Ok (view x)
Gives view (Err e) read = Fails e read

-- the refusal that is returned
abbrev pub refusal_of : ReadError → RecordFault
refusal_of errors.Memory = Memory
refusal_of (errors.Fault f) = f
