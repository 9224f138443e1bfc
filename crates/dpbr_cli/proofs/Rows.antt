-- If words are valid uses of arguments, the rows of their matches have valid values.
use Rattle.std.proofs.Common.{◌≡◌, ◌<◌, ◌++◌, ◌&&◌, ◌||◌, not, ℕ, zero, suc, Bool, true, false, cond, List, [], ◌∷◌, Option, None, Some, IfSome, arith, refl, sym, subst, length, drop, lt-ltb, ne_eqb, true≢false}
use Rattle.std.specs.Prelude.{encode_utf8, find, fold, if◌then◌else◌, is_some, nat_lt, slice_get}
use Rattle.std.specs.Option.{option_map_or}
use Rattle.std.specs.Str.{bytes_eq, chars}
use Rattle.std.proofs.lemmas.Slice.Eq.{bytes_eq-Decides}
use Rattle.clap.specs.Facts.{parser_of_value, unwrap_or_range}
use Rattle.clap.specs.Faults.{action_fault, bundle_step_fault, default_fault, defaults_fault, flags_fault, given_default_fault, long_fault, option_fault, positional_fault, react_fault, repeat_fault, settle_fault, short_fault, use_fault, values_fault}
use Rattle.clap.specs.Kinds.{Kinds, or_else, range_kinds, request_kinds, value_kinds}
use Rattle.clap.specs.Walk.{Held, Outcome, Row, Rule, Text, Waiting}
use Rattle.clap.specs.Walk.{done, waits, plain, refused, idle, option, positional}
use Rattle.clap.specs.Walk.{action_of, after_flag, arg_by_id, arg_by_short, at_row, attached_value, bundle_met, bundle_step, default_rows}
use Rattle.clap.specs.Walk.{flag_met, has_row, has_short, is_empty, is_pending, long_met, more_values, most_values, option_met, option_word, plain_word, positional_held, pushed, reacted}
use Rattle.clap.specs.Walk.{reading_by, settled, settled_rows, short_met, takes_several, takes_values}
use Rattle.clap.specs.Walk.{used, used_as, used_by_id, values_or_missing, with_default, with_values, without}
use Rattle.clap.specs.declared.builder.action.ArgAction.{ArgAction}
use Rattle.clap.specs.declared.builder.action.ArgAction.TheVariants.{Set, Append, SetTrue, SetFalse, Count, Help, HelpShort, HelpLong, Version}
use Rattle.clap.specs.declared.builder.value_parser.Reading.{Reading}
use Rattle.clap.specs.declared.error.kind.ErrorKind.TheVariants as kind
use Rattle.clap.specs.declared.parser.matches.ValueSource.{ValueSource}
use Rattle.dpbr_cli.proofs.Entering.{neither}

-- each use of the argument has a value, its own or a default
abbrev pub has_values : Rule → ArgAction → Bool
has_values a Count = false
has_values a Help = true
has_values a HelpShort = true
has_values a HelpLong = true
has_values a Version = true
has_values a _ = nat_lt 0 (unwrap_or_range a.range).start_inclusive || not (is_empty a.missing)

-- at least one value; all are accepted by the argument's parser, and are parsed as the argument's
-- are
pub record AreValues (a : Rule) (vs : List Text) (how : Reading) : Type 0 where
  pub some : 0 < length vs
  pub pass : values_fault a vs ≡ []
  pub read : how ≡ reading_by a

-- appending values keeps them non-empty, and accepted if both lists are
longer : (vs ws : List Text) → 0 < length vs → 0 < length (vs ++ ws)
longer [] ws some = absurd (omega (arith, some))
longer (v ∷ vs) ws some = omega arith

pass_both : (a : Rule) (vs ws : List Text) → values_fault a vs ≡ [] → values_fault a ws ≡ [] → values_fault a (vs ++ ws) ≡ []
pass_both a [] ws p q = q
pass_both a (v ∷ vs) ws p q =
    let parts = neither (value_kinds a.ignore_case (parser_of_value a.parser) v) (values_fault a vs) p in
    rw parts.0 (pass_both a vs ws parts.1 q)

-- a list that is not empty has a value
not_empty : (vs : List Text) → not (is_empty vs) ≡ true → 0 < length vs
not_empty [] some = absurd (true≢false (sym some))
not_empty (v ∷ vs) some = omega arith

-- a use without a value has a default
some_used : (a : Rule) (vs : List Text) → (nat_lt 0 (unwrap_or_range a.range).start_inclusive || not (is_empty a.missing)) ≡ true
    → range_kinds (unwrap_or_range a.range).start_inclusive (most_values a) (length vs) ≡ [] → 0 < length (values_or_missing a vs)
some_used a (v ∷ vs) has none = omega arith
some_used a [] has none = by (unwrap_or_range a.range).start_inclusive has none
  where
    by : (k : ℕ) → (nat_lt 0 k || not (is_empty a.missing)) ≡ true → range_kinds k (most_values a) 0 ≡ [] → 0 < length a.missing
    by zero has none = not_empty a.missing has
    by (suc k) has none = absurd (let no : kind.InvalidValue ∷ [] ≡ [] = rw (lt-ltb 0 (suc k) (omega arith)) at none in cc)

module _ (c : List Rule) where
  -- the argument is the one of its name, and each use of it has a value
  pub record IsKnown (a : Rule) : Type 0 where
    pub own : arg_by_id c a.id ≡ Some a
    pub values : has_values a (action_of a) ≡ true

  -- so is each of these
  abbrev pub AreKnown : List Rule → Type 0
  AreKnown [] = Unit {0}
  AreKnown (a ∷ rules) = IsKnown a × AreKnown rules

  pub found_known : (p : Rule → Bool) (rules : List Rule) → AreKnown rules → IfSome (find p rules) IsKnown
  found_known p [] all = tt
  found_known p (a ∷ rules) all = by (p a) (found_known p rules all.1)
    where
      by : (b : Bool) → IfSome (find p rules) IsKnown → IfSome (cond b (Some a) (find p rules)) IsKnown
      by true rest = all.0
      by false rest = rest

  -- ---- rows

  -- the row of the name has valid values of its argument
  abbrev pub Fit : Text → List Text → Reading → Type 0
  Fit id vs how = IfSome (arg_by_id c id) (λ a. AreValues a vs how)

  abbrev pub AllFit : List Row → Type 0
  AllFit [] = Unit {0}
  AllFit (r ∷ rs) = Fit r.id r.values r.reading × AllFit rs

  fit_both : (id : Text) (vs ws : List Text) (how other : Reading) → Fit id vs how → Fit id ws other → Fit id (vs ++ ws) how
  fit_both id vs ws how other p q = by (arg_by_id c id) p q
    where
      by : (o : Option Rule) → IfSome o (λ a. AreValues a vs how) → IfSome o (λ a. AreValues a ws other) → IfSome o (λ a. AreValues a (vs ++ ws) how)
      by None p q = tt
      by (Some a) p q = record { some = longer vs ws p.some; pass = pass_both a vs ws p.pass q.pass; read = p.read }

  -- valid rows stay valid when they are appended or inserted
  fit_append : (xs ys : List Row) → AllFit xs → AllFit ys → AllFit (xs ++ ys)
  fit_append [] ys p q = q
  fit_append (x ∷ xs) ys p q = (p.0, fit_append xs ys p.1 q)

  fit_at : (id : Text) (change : Row → List Row) (missing rows : List Row)
      → ((r : Row) → bytes_eq r.id id ≡ true → Fit r.id r.values r.reading → AllFit (change r)) → AllFit missing → AllFit rows
      → AllFit (at_row id change missing rows)
  fit_at id change missing [] h m p = m
  fit_at id change missing (r ∷ rs) h m p = by (bytes_eq r.id id) refl (fit_at id change missing rs h m p.1)
    where
      by : (b : Bool) → bytes_eq r.id id ≡ b → AllFit (at_row id change missing rs) → AllFit (if b then change r ++ rs else r ∷ at_row id change missing rs)
      by true is rest = fit_append (change r) rs (h r is p.0) p.1
      by false is rest = (p.0, rest)

  fit_without : (id : Text) (rows : List Row) → AllFit rows → AllFit (without id rows)
  fit_without id rows p = fit_at id (λ _. []) [] rows (λ r is q. tt) tt p

  fit_with : (id : Text) (how : Reading) (s : ValueSource) (vs : List Text) (rows : List Row) → Fit id vs how → AllFit rows
      → AllFit (with_values id how s vs rows)
  fit_with id how s vs rows fit p =
      fit_at id (more_values s vs) _ rows
      (λ r is q. (fit_both r.id r.values vs r.reading how q (subst (λ (t : Text). Fit t vs how) (sym ((bytes_eq-Decides r.id id).0 is)) fit), tt))
      (fit, tt) p

  -- ---- uses

  fit_own : (a : Rule) (vs : List Text) → IsKnown a → 0 < length vs → values_fault a vs ≡ [] → Fit a.id vs (reading_by a)
  fit_own a vs known some pass =
      subst (λ (o : Option Rule). IfSome o (λ b. AreValues b vs (reading_by a))) (sym known.own) (record { some = some; pass = pass; read = refl })

  fit_used : (again : Bool) (a : Rule) (values : List Text) (rows : List Row) → IsKnown a → use_fault again a values rows ≡ [] → AllFit rows
      → AllFit (used a values rows)
  fit_used again a values rows known none p = by (action_of a) known.values parts.1
    where
      parts : (range_kinds (unwrap_or_range a.range).start_inclusive (most_values a) (length values) ≡ [])
          × (action_fault (action_of a) again a (values_or_missing a values) rows ≡ [])
      parts = neither (range_kinds (unwrap_or_range a.range).start_inclusive (most_values a) (length values)) _ none

      fit : (nat_lt 0 (unwrap_or_range a.range).start_inclusive || not (is_empty a.missing)) ≡ true → values_fault a (values_or_missing a values) ≡ []
          → Fit a.id (values_or_missing a values) (reading_by a)
      fit has e = fit_own a _ known (some_used a values has parts.0) e

      anew : (source : ValueSource) → (nat_lt 0 (unwrap_or_range a.range).start_inclusive || not (is_empty a.missing)) ≡ true
          → or_else (repeat_fault again a.id rows) (values_fault a (values_or_missing a values)) ≡ []
          → AllFit (with_values a.id (reading_by a) source (values_or_missing a values) (without a.id rows))
      anew source has e =
          fit_with a.id (reading_by a) source _ (without a.id rows) (fit has (neither (repeat_fault again a.id rows) _ e).1) (fit_without a.id rows p)

      by : (x : ArgAction) → has_values a x ≡ true → action_fault x again a (values_or_missing a values) rows ≡ []
          → AllFit (used_as x a.id (reading_by a) (values_or_missing a values) rows)
      by Set has e = anew _ has e
      by Append has e = fit_with a.id (reading_by a) _ _ rows (fit has e) p
      by SetTrue has e = anew _ has e
      by SetFalse has e = anew _ has e
      by Count has e = absurd (true≢false (sym has))
      by Help has e = p
      by HelpShort has e = p
      by HelpLong has e = p
      by Version has e = p

  -- ---- pending values

  module _ (again : Bool) (all : AreKnown c) where
    pub fit_settled : (h : Held) → settle_fault c again h ≡ [] → AllFit h.rows → AllFit (settled c h).rows
    fit_settled h none p = by h.pending none
      where
        known : (q : Text × List Text) (o : Option Rule) → IfSome o IsKnown → option_map_or (λ a. use_fault again a q.1 h.rows) o [] ≡ []
            → AllFit (used_by_id o q.1 h.rows)
        known q None s e = p
        known q (Some a) s e = fit_used again a q.1 h.rows s e p

        by : (o : Option (Text × List Text))
            → option_map_or (λ q. option_map_or (λ a. use_fault again a q.1 h.rows) (arg_by_id c q.0) []) o [] ≡ []
            → AllFit (settled_rows c o h.rows)
        by None e = p
        by (Some q) e = known q (arg_by_id c q.0) (found_known (λ a. bytes_eq a.id q.0) c all) e

    fit_reacted : (a : Rule) (values : List Text) (h : Held) → IsKnown a → react_fault c again a values h ≡ [] → AllFit h.rows
        → AllFit (reacted c a values h).rows
    fit_reacted a values h known none p =
        let parts = neither (settle_fault c again h) _ none in
        fit_used again a values (settled c h).rows known parts.1 (fit_settled h parts.0 p)

    fit_option : (a : Rule) (v : Option Text) (h : Held) → IsKnown a → option_fault c again a v h ≡ [] → AllFit h.rows → AllFit (option_met c a v h).0.rows
    fit_option a (Some v) h known none p = fit_reacted a (v ∷ []) h known none p
    fit_option a None h known none p = fit_settled h none p

    pub fit_long : (found : Option Rule) (v : Option Text) (h : Held) → IfSome found IsKnown → long_fault c again found v h ≡ [] → AllFit h.rows
        → AllFit (long_met c found v h).0.rows
    fit_long None v h known none p = p
    fit_long (Some a) v h known none p = by (takes_values a) v none
      where
        by : (b : Bool) (v : Option Text)
            → (if b then option_fault c again a v h else (if is_some v then kind.TooManyValues ∷ [] else react_fault c again a [] h)) ≡ []
            → AllFit (if b then option_met c a v h else flag_met c a v h).0.rows
        by true v e = fit_option a v h known e p
        by false (Some t) e = p
        by false None e = fit_reacted a [] h known e p

    fit_short : (found : Option Rule) (rest : Text) (h : Held) (rest_met : Held → Held × Outcome) (rest_fault : Held → Kinds) → IfSome found IsKnown
        → ((k : Held) → rest_fault k ≡ [] → AllFit k.rows → AllFit (rest_met k).0.rows)
        → short_fault c again found rest h rest_fault ≡ [] → AllFit h.rows → AllFit (short_met c found rest h rest_met).0.rows
    fit_short None rest h rest_met rest_fault known more none p = p
    fit_short (Some a) rest h rest_met rest_fault known more none p = by (takes_values a) none
      where
        by : (b : Bool)
            → (if b then option_fault c again a (attached_value rest) h else or_else (react_fault c again a [] h) (rest_fault (reacted c a [] h))) ≡ []
            → AllFit (if b then option_met c a (attached_value rest) h else rest_met (reacted c a [] h)).0.rows
        by true e = fit_option a (attached_value rest) h known e p
        by false e =
            let parts = neither (react_fault c again a [] h) _ e in
            more (reacted c a [] h) parts.1 (fit_reacted a [] h known parts.0 p)

    pub fit_bundle : (k : ℕ) (flags : Text) (skip : ℕ) (so_far : Outcome) (h : Held) → flags_fault c again k flags skip h ≡ [] → AllFit h.rows
        → AllFit (bundle_met c k flags skip so_far h).0.rows
    unfolding bundle_met flags_fault
    fit_bundle zero flags skip so_far h none p = p
    fit_bundle (suc k) flags skip so_far h none p = by (slice_get (chars flags) 0) skip (fit_bundle k) none
      where
        by : (o : Option ℕ) (skip : ℕ)
            → ((flags : Text) (skip : ℕ) (so_far : Outcome) (h : Held) → flags_fault c again k flags skip h ≡ [] → AllFit h.rows
            → AllFit (bundle_met c k flags skip so_far h).0.rows)
            → bundle_step_fault c again o flags skip h (flags_fault c again k) ≡ []
            → AllFit (bundle_step c o flags skip so_far h (bundle_met c k)).0.rows
        by None skip rest e = p
        by (Some x) zero rest e =
            let left : Text = drop (length (encode_utf8 x)) flags in
            fit_short (arg_by_short c x) left h (bundle_met c k left 0 done) (flags_fault c again k left 0)
            (found_known (λ a. not (is_some a.index) && has_short a x) c all)
            (λ held e q. rest left 0 done held e q) e p
        by (Some x) (suc skip) rest e = rest (drop (length (encode_utf8 x)) flags) skip so_far h e p

    pub fit_plain : (waiting : Waiting) (word : Text) (h : Held) → AllFit h.rows → AllFit (plain_word c waiting word h).0.rows
    fit_plain idle word h p = p
    fit_plain positional word h p = p
    fit_plain (option id) word h p = by (arg_by_id c id)
      where
        by : (o : Option Rule) → AllFit (option_word o id word h).0.rows
        by None = p
        by (Some a) = p

    pub fit_flag : (waiting : Waiting) (word : Text) (h : Held) (outcome : Outcome) → AllFit h.rows → AllFit (after_flag c waiting word h outcome).0.rows
    fit_flag waiting word h done p = p
    fit_flag waiting word h (waits id) p = p
    fit_flag waiting word h plain p = fit_plain waiting word h p
    fit_flag waiting word h refused p = fit_plain waiting word h p

    pub fit_positional : (a : Rule) (word : Text) (h : Held) → positional_fault c again a h ≡ [] → AllFit h.rows → AllFit (positional_held c a word h).rows
    fit_positional a word h none p = by (is_pending a h.pending && takes_several a) none
      where
        by : (b : Bool) → (if b then [] else settle_fault c again h) ≡ [] → AllFit (pushed a.id word (if b then h else settled c h)).rows
        by true e = p
        by false e = fit_settled h e p

  -- ---- defaults

  fit_default : (rows : List Row) (a : Rule) → IsKnown a → default_fault rows a ≡ [] → AllFit rows → AllFit (with_default rows a)
  fit_default rows a known none p = by (has_row a.id rows) none
    where
      values : (vs : List Text) → (if is_empty vs then [] else given_default_fault a vs) ≡ [] → AllFit (default_rows a.id (reading_by a) vs rows)
      values [] e = p
      values (v ∷ vs) e =
          let some : is_empty (v ∷ vs) ≡ false = ne_eqb _ _ (λ no. omega (arith, no)) in
          let filled = subst (λ b. (if b then [] else given_default_fault a (v ∷ vs)) ≡ []) some e in
          fit_with a.id (reading_by a) _ (v ∷ vs) rows (fit_own a (v ∷ vs) known (omega arith) (neither (request_kinds (action_of a)) _ filled).1) p

      by : (b : Bool) → (if b || is_empty a.defaults then [] else given_default_fault a a.defaults) ≡ []
          → AllFit (if b then rows else default_rows a.id (reading_by a) a.defaults rows)
      by true e = p
      by false e = values a.defaults e

  pub fit_defaults : (rules : List Rule) (rows : List Row) → AreKnown rules → defaults_fault rows rules ≡ [] → AllFit rows → AllFit (fold with_default rows rules)
  unfolding defaults_fault
  fit_defaults [] rows all none p = p
  fit_defaults (a ∷ rules) rows all none p =
      let parts = neither (default_fault rows a) _ none in
      fit_defaults rules (with_default rows a) all.1 parts.1 (fit_default rows a all.0 parts.0 p)
