-- What programs do is a run of hosts, and so one world.
use Rattle.std.proofs.Common.{◌≡◌, ℕ, List, Some, Ok, slice_get, slice_set, refl, sym, ap, subst, ◌∙◌, inr}
use Rattle.std.specs.Prelude.{Contains}
use Rattle.dpbn_node.specs.Runs.{Running}
use Rattle.faults.specs.Bytes.{Text}
use Rattle.laws.proofs.ProgramRuns.{AreAt, Grows, HasHost, IsAt, are_at_after, are_at_first, are_hosts, at_up}
use Rattle.laws.proofs.ProgramTurns.{goes_on, killed_in, offers_more}
use Rattle.laws.proofs.Reopened.{at_moment, identity_opened}
use Rattle.laws.proofs.Running.{a_world}
use Rattle.laws.specs.Hosts.{Down, Host, Hosts, IsLeft, Up, at_start}
use Rattle.laws.specs.ProgramLaws.{ProgramsMakeAWorld}
use Rattle.laws.specs.Programs as run
use Rattle.laws.specs.Programs.{Happened, HasEnded, HasStarted, HasTurned, HasWaited, HaveRun, Programs, Rests, Runs, WasKilled, WasKilledInStart, at_first}
use Rattle.laws.specs.Run as hosts
use Rattle.laws.specs.Run.{Run}
use Rattle.listing.specs.Tree.{Tree}
use Rattle.node.specs.OnLog.{identity, identity_of, texts_of}
use Rattle.node.specs.State.{NodeState}
use Rattle.one_list.proofs.uses.HostedNodes.{set_elsewhere, set_there}
use Rattle.stable_record.specs.History.{History, seen}
use Rattle.stable_record.specs.Log.{HasNotes}
use Rattle.stable_record.specs.Opening.{Opens, OpensAsLeft}
use Rattle.stable_record.specs.RealFile.{file_history}
use Rattle.stable_record.specs.declared.identity.Identity.{Identity}

-- ---- one thing after the other

module _ (tree : Tree) (weights : List ℕ) (first : Hosts) where
  -- a run of hosts whose hosts are those of the programs
  abbrev pub HasRunOn : Programs → Type 0
  HasRunOn p = (h : Hosts) × Run tree weights first h × AreAt tree weights p h

  -- nothing more was offered
  same_offered : (p q : Programs) → q.offered ≡ p.offered → Grows p.offered q.offered
  same_offered p q same text there = subst (λ (l : List Text). Contains l text) (sym same) there

  -- ---- a program waits

  waits : (p q : Programs) (h : Hosts) → Run tree weights first h → AreAt tree weights p h
      → (w : HasWaited p q)
      → HasHost tree weights p.offered h.hosts w.number (Runs w.state) → HasRunOn q
  waits p q h so_far are w (y, there, (n, is, at)) = (
    h,
    so_far,
    are_at_after tree weights p q h h w.number (Runs w.state)
        (Runs (record w.state { port = w.port })) y are w.runs w.places
        (are.offered ∙ sym w.offered) (same_offered p q w.offered) there (λ j other. refl)
        (subst (λ (l : List Text). IsHere l) (sym w.offered) (
          n,
          is,
          record {
            own = at.own;
            up = at.up;
            stopped = at.stopped;
            on = at.on;
            leaves = at.leaves;
          },
        )),
  )
    where
      IsHere : List Text → Type 0
      IsHere l = (n : NodeState) × (y ≡ Up n)
          × IsAt tree weights l w.number (record w.state { port = w.port }) n

  -- ---- a program takes a turn

  turns : (p q : Programs) (h : Hosts) → Run tree weights first h → AreAt tree weights p h
      → HasTurned p q → HasRunOn q
  turns p q h so_far are t =
      let next = goes_on tree weights first h so_far p.offered q.offered t.number t.takes.handed t.before
      t.after are.offered t.takes.agrees (are.each t.number (Runs t.before) t.runs) t.takes.answer
      t.takes.turn t.takes.heard t.offered in (
        next.0,
        next.2,
        are_at_after tree weights p q h next.0 t.number (Runs t.before) (Runs t.after) next.1 are
            t.runs t.places next.3 (offers_more t.before t.takes.answer p.offered q.offered t.offered)
            (next.4).here (next.4).others next.5,
      )

  -- ---- a program ends

  -- the hosts once this one is down
  abbrev with_host : Hosts → ℕ → Host → Hosts
  with_host h k y = record { hosts = slice_set h.hosts k y; offered = h.offered }

  comes_down : (p q : Programs) (h : Hosts) → Run tree weights first h → AreAt tree weights p h
      → (k : ℕ) (s : Running) (file : Text) → slice_get p.places k ≡ Some (Runs s)
      → q.places ≡ slice_set p.places k (Rests file) → q.offered ≡ p.offered
      → (y : Host) (n : NodeState) (ts : List Text) → slice_get h.hosts k ≡ Some y → y ≡ Up n
      → HasNotes (identity tree weights k) ts file → IsLeft p.offered n ts → HasRunOn q
  comes_down p q h so_far are k s file runs places same y n ts there is has left = (
    with_host h k (Down ts),
    hosts.ended h (with_host h k (Down ts)) so_far (record {
      number = k;
      node = n;
      up = there ∙ ap Some is;
      left = ts;
      is_left = subst (λ (l : List Text). IsLeft l n ts) (sym are.offered) left;
      hosts = refl;
      offered = refl;
    }),
    are_at_after tree weights p q h (with_host h k (Down ts)) k (Runs s) (Rests file) (Down ts) are
        runs places (are.offered ∙ sym same) (same_offered p q same)
        (set_there h.hosts k y (Down ts) there)
        (λ j other. set_elsewhere h.hosts k j (Down ts) other) (ts, refl, inr has),
  )

  ends : (p q : Programs) (h : Hosts) → Run tree weights first h → AreAt tree weights p h
      → (e : HasEnded p q)
      → HasHost tree weights p.offered h.hosts e.number (Runs e.state) → HasRunOn q
  ends p q h so_far are e (y, there, (n, is, at)) =
      let left = at.leaves e.file e.left in
      comes_down p q h so_far are e.number e.state e.file e.runs e.places e.offered y n left.0 there
      is left.1 left.2

  is_killed : (p q : Programs) (h : Hosts) → Run tree weights first h → AreAt tree weights p h
      → (e : WasKilled p q)
      → HasHost tree weights p.offered h.hosts e.number (Runs e.before) → HasRunOn q
  is_killed p q h so_far are e (y, there, (n, is, at)) =
      let left = killed_in tree weights first h so_far p.offered q.offered e.number e.takes.handed
      e.before e.after are.offered e.takes.agrees n at e.takes.answer e.takes.turn e.takes.heard e.file
      e.left in
      comes_down p q h so_far are e.number e.before e.file e.runs e.places e.offered y n left.0 there
      is left.1 left.2

  -- ---- a program starts

  starts : (p q : Programs) (h : Hosts) → Run tree weights first h → AreAt tree weights p h
      → (s : HasStarted tree weights p q)
      → HasHost tree weights p.offered h.hosts s.number (Rests s.file) → HasRunOn q
  starts p q h so_far are s (y, there, (ts, is, opens)) = (
    with_host h s.number (Up n),
    hosts.opened h (with_host h s.number (Up n)) so_far (record {
      number = s.number;
      texts = ts;
      down = there ∙ ap Some is;
      node = n;
      opened = s.opens.opened.node.opened;
      own = own_notes;
      hosts = refl;
      offered = refl;
    }),
    are_at_after tree weights p q h (with_host h s.number (Up n)) s.number (Rests s.file)
        (Runs s.state) (Up n) are s.rests s.places (are.offered ∙ sym s.offered)
        (same_offered p q s.offered) (set_there h.hosts s.number y (Up n) there)
        (λ j other. set_elsewhere h.hosts s.number j (Up n) other) (
          n,
          refl,
          at_up tree weights q.offered s.number s.state its
              (s.opens.opened.node.on_log s.opens.agrees),
        ),
  )
    where
      n : NodeState
      n = s.state.node.node

      its : identity_of n.member ≡ identity tree weights s.number
      its = identity_opened tree weights s.number n s.opens.opened.node.opened

      opens_so : Opens (identity tree weights s.number) s.file (Ok (texts_of n.notes))
      opens_so = subst (λ (f : Text). Opens (identity tree weights s.number) f
          (Ok (texts_of n.notes))) s.opens.own
          (subst (λ (i : Identity). Opens i (seen (file_history s.opens.log))
          (Ok (texts_of n.notes))) its (s.opens.opened.node.notes s.opens.agrees))

      own_notes : texts_of n.notes ≡ ts
      own_notes =
          let two : Ok (texts_of n.notes) ≡ Ok ts =
          s.opens.opened.node.one_answer.no_second s.file (Ok (texts_of n.notes)) (Ok ts) opens_so
          opens in
          cc

  -- ---- a program is killed while it starts

  is_killed_in_start : (p q : Programs) (h : Hosts) → Run tree weights first h
      → AreAt tree weights p h → (s : WasKilledInStart tree weights p q)
      → HasHost tree weights p.offered h.hosts s.number (Rests s.file) → HasRunOn q
  is_killed_in_start p q h so_far are s (y, there, (ts, is, opens)) = (
    h,
    so_far,
    are_at_after tree weights p q h h s.number (Rests s.file) (Rests s.new_file) y are s.rests
        s.places (are.offered ∙ sym s.offered) (same_offered p q s.offered) there (λ j other. refl)
        (ts, is, opens_still),
  )
    where
      n : NodeState
      n = s.state.node.node

      its : identity_of n.member ≡ identity tree weights s.number
      its = identity_opened tree weights s.number n s.opens.opened.node.opened

      before : History
      before = file_history s.opens.log

      -- the new file opens as one that a crash could leave at first, and that is the old file
      as_left : OpensAsLeft (identity_of n.member) before s.new_file
      as_left = at_moment (OpensAsLeft (identity_of n.member) before) before
          (file_history s.state.node.log.disk) (s.opens.opened.node.any_moment s.opens.agrees)
          s.left.rest s.left.moment s.left.since s.left.before s.left.behind s.new_file s.left.may

      as_old : Opens (identity_of n.member) as_left.left (Ok ts)
      as_old = subst (λ (f : Text). Opens (identity_of n.member) f (Ok ts))
          (sym (s.on_disk as_left.left as_left.could_be))
          (subst (λ (i : Identity). Opens i s.file (Ok ts)) (sym its) opens)

      opens_still : Opens (identity tree weights s.number) s.new_file (Ok ts)
      opens_still = subst (λ (i : Identity). Opens i s.new_file (Ok ts)) its
          ((as_left.same (Ok ts)).0 as_old)

  -- ---- all of it

  -- one thing more happens
  one_more : (p q : Programs) → HasRunOn p → Happened tree weights p q → HasRunOn q
  one_more p q (h, so_far, are) (run.started s) =
      starts p q h so_far are s (are.each s.number (Rests s.file) s.rests)
  one_more p q (h, so_far, are) (run.waited w) =
      waits p q h so_far are w (are.each w.number (Runs w.state) w.runs)
  one_more p q (h, so_far, are) (run.turned t) = turns p q h so_far are t
  one_more p q (h, so_far, are) (run.ended e) =
      ends p q h so_far are e (are.each e.number (Runs e.state) e.runs)
  one_more p q (h, so_far, are) (run.killed e) =
      is_killed p q h so_far are e (are.each e.number (Runs e.before) e.runs)
  one_more p q (h, so_far, are) (run.killed_in_start s) =
      is_killed_in_start p q h so_far are s (are.each s.number (Rests s.file) s.rests)

  pub runs_on : (early p : Programs) → HasRunOn early → HaveRun tree weights early p → HasRunOn p
  runs_on early _ at run.nothing_yet = at
  runs_on early _ at (run.went_on p q did it) = one_more p q (runs_on early p at did) it

pub programs_make_a_world : ProgramsMakeAWorld
programs_make_a_world division weights p made did =
    let all = runs_on division.tree weights (at_start weights) (at_first weights) p
    (at_start weights, hosts.nothing_yet, are_at_first division.tree weights) did in
    let world = a_world division weights all.0 made all.1 in (
      all.0,
      are_hosts division.tree weights p all.0 all.2,
      all.1,
      world.0,
      world.1,
      world.2,
      world.3,
      world.4,
    )
