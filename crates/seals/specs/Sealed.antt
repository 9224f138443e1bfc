-- Sealed texts.
use Rattle.std.specs.Prelude.{◌++◌}
use Rattle.faults.specs.Bytes.{Text}
use Rattle.seals.specs.Hmac.{hmac}

-- the text, followed by its code under the key
abbrev pub sealed : Text → Text → Text
sealed key text = text ++ hmac key text
