-- A file opens in one way only.
use Rattle.std.proofs.Common.{◌≡◌, inl, inr, ℕ, List, Ok, Err, Result, MatchResult, refl, sym, subst, ap, ◌∙◌}
use Rattle.faults.specs.Bytes.{Text}
use Rattle.engine.specs.Tree.{Tree}
use Rattle.stable_record.specs.Log.{Note as Bytes}
use Rattle.stable_record.specs.Opening.{HasOneAnswer, Opens}
use Rattle.stable_record.specs.declared.identity.Identity.{Identity}
use Rattle.stable_record.specs.declared.log_fault.LogFault.{LogFault}
use Rattle.stable_record.specs.declared.log_fault.LogFault.TheVariants as log
use Rattle.node.proofs.Opened.{one_way}
use Rattle.node.proofs.Sent.{notes_again}
use Rattle.node.specs.Calls.{OpensAsOne, OpensNode}
use Rattle.node.specs.Noted.{notes_in}
use Rattle.node.specs.OnLog.{identity, identity_of, texts_of}
use Rattle.node.specs.State.{NodeState, opened_node}

module _ (tree : Tree) (weights : List ℕ) (me : ℕ) (one : HasOneAnswer (identity tree weights me)) (file : Text) where
  -- the file is the node's log
  texts_open : (n : NodeState) → OpensNode tree weights me file (Ok n) → Opens (identity tree weights me) file (Ok (texts_of n.notes))
  texts_open n (is, opens) =
      let own : identity_of n.member ≡ identity tree weights me =
      ap (λ (x : NodeState). identity_of x.member) is.node ∙ ap (λ (t : Tree). identity t weights me) is.of_tree in
      subst (λ (i : Identity). Opens i file (Ok (texts_of n.notes))) own opens

  -- it either has notes or is refused
  never_both : (texts : List Bytes) (f : LogFault) → Opens (identity tree weights me) file (Ok texts) → Opens (identity tree weights me) file (Err f) → ⊥
  never_both texts f opens refused =
      let two : Ok texts ≡ Err f = one.no_second file (Ok texts) (Err f) opens refused in
      (let no : Ok texts ≡ Err f = two in cc)

  never_two : Opens (identity tree weights me) file (Err log.NotALog) → Opens (identity tree weights me) file (Err log.OtherCluster) → ⊥
  never_two a b =
      let two : Err log.NotALog ≡ Err log.OtherCluster = one.no_second file (Err log.NotALog) (Err log.OtherCluster) a b in
      (let no : Err log.NotALog ≡ Err log.OtherCluster = two in cc)

  same_texts : (a b : List Bytes) → Opens (identity tree weights me) file (Ok a) → Opens (identity tree weights me) file (Ok b) → a ≡ b
  same_texts a b first second =
      let two : Ok a ≡ Ok b = one.no_second file (Ok a) (Ok b) first second in cc

  -- two nodes of it are equal
  one_opened : (n m : NodeState) → OpensNode tree weights me file (Ok n) → OpensNode tree weights me file (Ok m) → n ≡ m
  one_opened n m first second =
      let is = first.0 in
      let was = second.0 in
      let texts = same_texts (texts_of n.notes) (texts_of m.notes) (texts_open n first) (texts_open m second) in
      let notes : n.notes ≡ m.notes = sym (notes_again n.notes is.notes_are) ∙ ap notes_in texts ∙ notes_again m.notes was.notes_are in
      let d : is.division ≡ was.division = one_way is.division was.division (is.of_tree ∙ sym was.of_tree) is.divided was.divided in
      is.node ∙ (λ j. opened_node (d j) weights me (notes j)) ∙ sym was.node

  -- the file of a node has notes
  no_node : (n : NodeState) → OpensNode tree weights me file (Ok n) → OpensNode tree weights me file (Err log.NotALog) → ⊥
  no_node n first (inl refused) = never_both (texts_of n.notes) log.NotALog (texts_open n first) refused
  no_node n first (inr (texts, opens, bad)) =
      let is = first.0 in
      let same = same_texts texts (texts_of n.notes) opens (texts_open n first) in
      bad is.division n.notes is.of_tree is.divided (record { read = same; each = is.notes_are; on_units = is.on_units })

  not_others : (n : NodeState) → OpensNode tree weights me file (Ok n) → OpensNode tree weights me file (Err log.OtherCluster) → ⊥
  not_others n first others = never_both (texts_of n.notes) log.OtherCluster (texts_open n first) others

  -- a file without a node is not another member's either
  no_node_of_others : OpensNode tree weights me file (Err log.NotALog) → OpensNode tree weights me file (Err log.OtherCluster) → ⊥
  no_node_of_others (inl refused) others = never_two refused others
  no_node_of_others (inr (texts, opens, bad)) others = never_both texts log.OtherCluster opens others

  refused_once : (f g : LogFault) → OpensNode tree weights me file (Err f) → OpensNode tree weights me file (Err g) → f ≡ g
  refused_once log.NotALog log.NotALog a b = refl
  refused_once log.NotALog log.OtherCluster a b = absurd (no_node_of_others a b)
  refused_once log.OtherCluster log.NotALog a b = absurd (no_node_of_others b a)
  refused_once log.OtherCluster log.OtherCluster a b = refl
  refused_once log.NotALog log.Memory a b = absurd b
  refused_once log.NotALog log.Device a b = absurd b
  refused_once log.NotALog log.Full a b = absurd b
  refused_once log.NotALog log.MustReopen a b = absurd b
  refused_once log.OtherCluster log.Memory a b = absurd b
  refused_once log.OtherCluster log.Device a b = absurd b
  refused_once log.OtherCluster log.Full a b = absurd b
  refused_once log.OtherCluster log.MustReopen a b = absurd b
  refused_once log.Memory g a b = absurd a
  refused_once log.Device g a b = absurd a
  refused_once log.Full g a b = absurd a
  refused_once log.MustReopen g a b = absurd a

  never_refused : (n : NodeState) (f : LogFault) → OpensNode tree weights me file (Ok n) → OpensNode tree weights me file (Err f) → ⊥
  never_refused n log.NotALog a b = no_node n a b
  never_refused n log.OtherCluster a b = not_others n a b
  never_refused n log.Memory a b = b
  never_refused n log.Device a b = b
  never_refused n log.Full a b = b
  never_refused n log.MustReopen a b = b

  pub one_thing : (a b : Result NodeState LogFault) → OpensNode tree weights me file a → OpensNode tree weights me file b → a ≡ b
  one_thing (Ok n) (Ok m) a b = ap Ok (one_opened n m a b)
  one_thing (Ok n) (Err f) a b = absurd (never_refused n f a b)
  one_thing (Err f) (Ok n) a b = absurd (never_refused n f b a)
  one_thing (Err f) (Err g) a b = ap Err (refused_once f g a b)

-- each file opens in one way only, if each log has one answer
pub opens_as_one : (tree : Tree) (weights : List ℕ) (me : ℕ) (i : Identity) → i ≡ identity tree weights me → HasOneAnswer i → OpensAsOne tree weights me
opens_as_one tree weights me i owner one = one_thing tree weights me (subst HasOneAnswer owner one)

-- whatever a call returns
pub whichever : {T E : Type 0} (r : Result T E) (P : Type 0) (Q : E → Type 0) → P → MatchResult r (λ x. P) (λ e. Q e → P)
whichever (Ok x) P Q p = p
whichever (Err e) P Q p = λ q. p
