-- What is written of a world and of a way in it is parsed as that.
use Rattle.std.proofs.Common.{◌≡◌, ◌++◌, ◌∙◌, ℕ, List, [], ◌∷◌, Ok, ap, map, subst, sym}
use Rattle.std.specs.Prelude.{All}
use Rattle.std.proofs.lemmas.List.{map-append}
use Rattle.std.proofs.lemmas.List.Elements.{All-append}
use Rattle.ballots.specs.Weights.{AreWeights}
use Rattle.dpbr_wayon.specs.WayOn.{IsWritten}
use Rattle.dpbr_wayon.specs.inside.Sound.{IsSound}
use Rattle.dpbr_wayon.proofs.Sound.{history_sound, way_sound}
use Rattle.protocol.specs.Events.{Event, event_view}
use Rattle.protocol.specs.declared.event.Event as declared
use Rattle.faults.specs.Bytes.{Text, line_feed}
use Rattle.protocol.specs.Given.{Given}
use Rattle.ways_on.specs.History.{History, IsHistory}
use Rattle.traces.specs.Again.{IsTextEvent, IsTextTrace}
use Rattle.traces.specs.Trace.{Trace, trace_of}
use Rattle.traces.specs.Written.{trace_text}
use Rattle.ways_on.specs.Asked.{IsGranted}
use Rattle.ways_on.specs.Laws.{HasWay}

-- a trace of these events, and then of a way
abbrev pub joined : List ℕ → List declared.Event → List Event → Trace
joined weights es way = record { weights = weights; events = map event_view es ++ way }

-- the text is such a trace's, and a line feed
abbrev pub IsLine : List ℕ → List Event → Text → List declared.Event → Type 0
IsLine weights way text es = text ≡ trace_text (joined weights es way) ++ line_feed ∷ []

-- it is parsed as that trace, if a trace can contain its weights and its events
abbrev pub IsReadAgain : List ℕ → List Event → Text → List declared.Event → Type 0
IsReadAgain weights way text es =
    AreWeights weights → All IsTextEvent (map event_view es ++ way) → trace_of text ≡ Ok (joined weights es way)

-- the text that is written of such a trace, with a line feed at the end, is parsed as that
module _ (weights : List ℕ) (es way both : List declared.Event) (are : both ≡ es ++ way) (text : Text) where
  abbrev pub whole : Trace
  whole = record { weights = weights; events = map event_view both }

  pub line_again : text ≡ trace_text whole ++ line_feed ∷ [] → (IsTextTrace whole → trace_of (trace_text whole ++ line_feed ∷ []) ≡ Ok whole)
      → IsReadAgain weights (map event_view way) text es
  line_again told line weigh all =
      let same : map event_view both ≡ map event_view es ++ map event_view way = ap (map event_view) are ∙ map-append event_view es way in
      let AreTextEvents : List Event → Type 0 = All IsTextEvent in
      let IsRead : List Event → Type 0 = λ events. trace_of text ≡ Ok (record { weights = weights; events = events }) in
      subst IsRead same (ap trace_of told ∙ line (record { weights = weigh; events = subst AreTextEvents (sym same) all }))

-- a trace can contain these events if they are sound
abbrev pub CanBeWritten : List declared.Event → Type 0
CanBeWritten es = All IsSound (map event_view es) → All IsTextEvent (map event_view es)

module _ (h : History) (is : IsHistory h) (weights : List ℕ) (same : weights ≡ h.world.weights) (node : ℕ) (path : Text) (host : ℕ) (given : Given) where
  pub is_written : (es way : List declared.Event) → es ≡ h.events → HasWay h.world node path host given (map event_view way)
      → IsGranted h.world node path host given → (text : Text) → IsLine weights (map event_view way) text es → IsReadAgain weights (map event_view way) text es
      → CanBeWritten h.events → CanBeWritten way → IsWritten h weights node path host given text
  is_written es way taken has granted text written again past further =
      let events : List Event = map event_view way in
      let sound : All IsSound events = way_sound h is node path host given events granted has.are in
      let weigh : AreWeights weights = subst AreWeights (sym same) is.made.weigh in
      let all : All IsTextEvent (map event_view h.events ++ events) =
      All-append IsTextEvent (map event_view h.events) events (past (history_sound h is)) (further sound) in
      record {
        way = events;
        has_way = has;
        granted = granted;
        written = subst (IsLine weights events text) taken written;
        again = subst (IsReadAgain weights events text) taken again weigh all;
      }
