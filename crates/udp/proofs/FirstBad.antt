-- Hosts that are parsed one after the other.
use Rattle.std.proofs.Common.{◌≡◌, ◌≢◌, ◌<◌, ◌≤◌, ◌+◌, ◌∙◌, ℕ, List, [], ◌∷◌, ◌++◌, Some, Bor, inl, inr, length, map, get_or, slice_get, take, refl, sym, ap, subst, arith}
use Rattle.std.specs.List.{Contains}
use Rattle.std.proofs.lemmas.List.{length-map}
use Rattle.std.proofs.lemmas.List.Elements.{Contains-get_or}
use Rattle.std.proofs.lemmas.List.Quantifiers.{all_pairs_push}
use Rattle.std.proofs.lemmas.Option.{slice_get_read}
use Rattle.std.proofs.lemmas.Slice.Zip.{all_zipped_more, AllZip-long}
use Rattle.std.proofs.NetLemmas.Theorems.{IsSocketV4Text_unique}
use Rattle.std.specs.Net.Grammar.{IsSocketV4Text}
use Rattle.std.specs.Net.Addr.{IsUnspecifiedV4}
use Rattle.std.specs.Net.Socket.{v4_ip, v4_port}
use Rattle.std.specs.declared.net.socket_addr.SocketAddrV4.{SocketAddrV4}
use Rattle.std.specs.declared.net.socket_addr.SocketAddr.{SocketAddr}
use Rattle.std.specs.declared.net.socket_addr.SocketAddr.TheVariants.{V4, V6}
use Rattle.faults.specs.Bytes.{Text}
use Rattle.udp.specs.Hosts.{IsBadBehind, IsFirstBad, IsHostText, WriteHosts, WritesNoOther}

-- a part that writes no address writes no host
pub no_host-no_address : (part : Text) → ((a : SocketAddrV4) → ¬ (IsSocketV4Text part a)) → (host : SocketAddr) → ¬ (IsHostText part host)
no_host-no_address part none (V4 a) h = none a h.0
no_host-no_address part none (V6 a) h = absurd h

-- nor does a part that writes an address with port 0
pub no_host-port_0 : (part : Text) (a : SocketAddrV4) → IsSocketV4Text part a → v4_port a ≡ 0 → (host : SocketAddr) → ¬ (IsHostText part host)
no_host-port_0 part a written zero (V4 b) h =
    let same : v4_port b ≡ 0 = sym (ap (λ (x : SocketAddrV4). v4_port x) (IsSocketV4Text_unique part a b written h.0)) ∙ zero in
    let above : 0 < v4_port b = h.1 in
    omega arith
no_host-port_0 part a written zero (V6 b) h = absurd h

-- nor does a part that writes 0.0.0.0
pub no_host-unspecified : (part : Text) (a : SocketAddrV4) → IsSocketV4Text part a → IsUnspecifiedV4 (v4_ip a) → (host : SocketAddr) → ¬ (IsHostText part host)
no_host-unspecified part a written none (V4 b) h =
    h.2 (subst (λ (x : SocketAddrV4). IsUnspecifiedV4 (v4_ip x)) (IsSocketV4Text_unique part a b written h.0) none)
no_host-unspecified part a written none (V6 b) h = absurd h

-- a part writes at most one host
IsHostText-unique : (part : Text) (a b : SocketAddr) → IsHostText part a → IsHostText part b → a ≡ b
IsHostText-unique part (V4 a) (V4 b) h k = ap V4 (IsSocketV4Text_unique part a b h.0 k.0)
IsHostText-unique part (V4 a) (V6 b) h k = absurd k
IsHostText-unique part (V6 a) b h k = absurd h

-- a part whose host is among these writes no other
pub WritesNoOther-again : (earlier : List SocketAddr) (part : Text) (host : SocketAddr) → IsHostText part host → Contains earlier host → WritesNoOther earlier part
WritesNoOther-again earlier part host written among other h =
    subst (Contains earlier) (IsHostText-unique part host other written h) among

-- one more host
pub WriteHosts-more : (parts : List Text) (hosts : List SocketAddr) (part : Text) (host : SocketAddr) → WriteHosts parts hosts → IsHostText part host → ¬ (Contains hosts host) → WriteHosts (parts ++ part ∷ []) (hosts ++ host ∷ [])
WriteHosts-more parts hosts part host so_far written new = record {
  each = all_zipped_more IsHostText parts hosts part host so_far.each written;
  once = all_pairs_push (λ a b. a ≢ b) hosts host so_far.once (λ k d in_list same. new (subst (Contains hosts) same (Contains-get_or hosts k d in_list)));
}

-- The hosts so far are those of the parts so far.
module _ (members : ℕ) (parts : List Text) (yielded : List (Bor Text)) (hosts : List SocketAddr) where
  pub one_each : WriteHosts (map (λ x. x.now) yielded) hosts → length hosts ≡ length yielded
  one_each so_far = AllZip-long IsHostText (map (λ x. x.now) yielded) hosts so_far.each ∙ length-map yielded (λ x. x.now)

  bad_behind : map (λ x. x.now) yielded ≡ take (length yielded) parts → WriteHosts (map (λ x. x.now) yielded) hosts → length hosts ≤ members → (place : ℕ) → place ≡ length hosts → IsBadBehind hosts members parts → IsFirstBad members parts (place + 1)
  bad_behind front so_far few place here bad = record {
    earlier = hosts;
    counted = ap (λ (n : ℕ). n + 1) here;
    few = few;
    good = subst (λ (t : List Text). WriteHosts t hosts) (front ∙ ap (λ (n : ℕ). take n parts) (sym (one_each so_far))) so_far;
    bad = bad;
  }

  -- one part too many
  pub too_many : map (λ x. x.now) yielded ≡ take (length yielded) parts → WriteHosts (map (λ x. x.now) yielded) hosts → length hosts ≤ members → (place : ℕ) → place ≡ length hosts → length yielded < length parts → members ≤ length hosts → IsFirstBad members parts (place + 1)
  too_many front so_far few place here more full =
      let long = one_each so_far in
      let further : length hosts < length parts = omega (arith, long) in
      let all : length hosts ≡ members = omega arith in
      bad_behind front so_far few place here (inr (inl (further, all)))

  -- a part that writes no other host
  pub no_other : map (λ x. x.now) yielded ≡ take (length yielded) parts → WriteHosts (map (λ x. x.now) yielded) hosts → length hosts ≤ members → (place : ℕ) → place ≡ length hosts → (part : Text) → length yielded < length parts → part ≡ get_or parts (length yielded) part → WritesNoOther hosts part → IsFirstBad members parts (place + 1)
  no_other front so_far few place here part more at none =
      let long = one_each so_far in
      bad_behind front so_far few place here (inr (inr (
        part,
        subst (λ (n : ℕ). slice_get parts n ≡ Some part) (sym long) (slice_get_read parts (length parts) (length yielded) part refl more at),
        none,
      )))

  -- too few parts
  pub lacking : map (λ x. x.now) yielded ≡ take (length yielded) parts → WriteHosts (map (λ x. x.now) yielded) hosts → (place : ℕ) → place ≡ length hosts → length yielded ≡ length parts → length hosts < members → IsFirstBad members parts (place + 1)
  lacking front so_far place here all less =
      let long = one_each so_far in
      let few : length hosts ≤ members = omega arith in
      bad_behind front so_far few place here (inl (sym all ∙ sym long, less))
