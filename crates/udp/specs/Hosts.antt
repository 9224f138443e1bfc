-- The addresses where the members of a cluster listen, parsed from the parts of a text.
use Rattle.std.specs.Prelude.{◌≡◌, ◌≢◌, ◌<◌, ◌≤◌, ◌⊎◌, ◌+◌, ⊤, ℕ, List, Some, length, slice_get, take}
use Rattle.std.specs.List.{AllPairs, AllZip, Contains}
use Rattle.std.specs.Net.Grammar.{IsSocketV4Text}
use Rattle.std.specs.Net.Addr.{IsUnspecifiedV4}
use Rattle.std.specs.Net.Socket.{v4_ip, v4_port}
use Rattle.std.specs.declared.net.socket_addr.SocketAddr.{SocketAddr}
use Rattle.std.specs.declared.net.socket_addr.SocketAddr.TheVariants.{V4, V6}
use Rattle.faults.specs.Bytes.{Text}
use Rattle.udp.specs.declared.hosts.HostsFault.{HostsFault}
use Rattle.udp.specs.declared.hosts.HostsFault.TheVariants.{BadHost, Memory}

-- the part writes this IPv4 address, which isn't 0.0.0.0 and whose port isn't 0
abbrev pub IsHostText : Text → SocketAddr → Type 0
IsHostText part (V4 a) = IsSocketV4Text part a × (0 < v4_port a) × ¬ (IsUnspecifiedV4 (v4_ip a))
IsHostText part (V6 a) = ⊥

-- The parts write these hosts, in order, and no two hosts are the same.
pub record WriteHosts (parts : List Text) (hosts : List SocketAddr) : Type 0 where
  pub each : AllZip IsHostText parts hosts
  pub once : AllPairs (λ a b. a ≢ b) hosts

-- the part writes no host, or only one of these
abbrev pub WritesNoOther : List SocketAddr → Text → Type 0
WritesNoOther earlier part = (host : SocketAddr) → IsHostText part host → Contains earlier host

-- After the parts of these hosts, with this number of members, the next part is missing, is one too
-- many, or writes no new host.
abbrev pub IsBadBehind : List SocketAddr → ℕ → List Text → Type 0
IsBadBehind earlier members parts =
    ((length parts ≡ length earlier) × (length earlier < members))
    ⊎ (((length earlier < length parts) × (length earlier ≡ members))
    ⊎ ((part : Text) × (slice_get parts (length earlier) ≡ Some part)
    × WritesNoOther earlier part))

-- the part of this number, counted from 1, is the first bad one
pub record IsFirstBad (members : ℕ) (parts : List Text) (place : ℕ) : Type 0 where
  pub earlier : List SocketAddr
  pub counted : place ≡ length earlier + 1
  pub few : length earlier ≤ members
  pub good : WriteHosts (take (length earlier) parts) earlier
  pub bad : IsBadBehind earlier members parts

-- out of memory, or this part is the first bad one
abbrev pub RefusesHosts : ℕ → List Text → HostsFault → Type 0
RefusesHosts members parts Memory = ⊤
RefusesHosts members parts (BadHost place) = IsFirstBad members parts place
