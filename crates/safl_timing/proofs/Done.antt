-- How a call of the program ends, by what its parts answer.
use Rattle.std.proofs.Common.{◌≡◌, ℕ, ◌≤◌, List, [], ◌∷◌, length, Option, Some, None, Result, Ok, Err, Bool, true, false, refl, sym, ap, subst, ◌∙◌, inl, inr}
use Rattle.std.specs.Prelude.{IsSomeAnd}
use Rattle.safl_io.specs.Shelf.{Files, ShelfState, file_of}
use Rattle.safl_io.specs.Sink.{SinkState, Sends, SendsPart}
use Rattle.safl_io.specs.Told.{TellsOn}
use Rattle.safl_word.specs.Limits.{source_max}
use Rattle.safl_task.specs.Endings.{Outside, outside, Began, Ends, told, cut, Stops, refused, unprinted, starved, may_give, Untouched}
use Rattle.safl_task.specs.Inputs.{OnlyReads, file_within}
use Rattle.safl_task.specs.Tasks.{Task, Input, Given, Only, AreContents, OfInputs, OfFile, status_if}
use Rattle.safl_task.specs.declared.status.Status.{Status}
use Rattle.safl_task.specs.declared.status.Status.TheVariants as status
use Rattle.safl_task.proofs.Ending.{same_all, same_parts}
use Rattle.safl_task.proofs.Following.{gave_at_ok}
use Rattle.safl_tool.specs.Promises.{IsPrinted}
use Rattle.safl_tool.specs.Refusals.{RefusesBy, SendsLine, sent}
use Rattle.safl_tool.specs.Refusals as refusals
use Rattle.safl_tool.specs.declared.refusal.Refusal.TheVariants as refusal
use Rattle.safl_tool.proofs.Refusing.{content_stops, refusal_ends}
use Rattle.safl_tool.proofs.Simulated.{given_quiet}
use Rattle.safl_timing.specs.Endings.{Does, NoProbe, PrintsBy, SendsStop, IsTimed, IsBlind, first_of}
use Rattle.safl_timing.specs.Lines.{usage_line}
use Rattle.safl_timing.specs.Requests.{Request, Asked, Time, Blind, asks}
use Rattle.safl_timing.specs.Secrets.{GivesBlind, StopsAs}
use Rattle.safl_timing.specs.Tasks.{Gives, GivesTime, Refuses, request_task, usage_task, shown}
use Rattle.safl_timing.specs.declared.timing.Lines.{Lines}
use Rattle.safl_timing.specs.declared.stop.Stop.{Stop}
use Rattle.safl_timing.specs.declared.stop.Stop.TheVariants as stops

-- ---- the contents

one_within : (holds : Option Files) (i : Input) (cs : List (List ℕ)) → AreContents holds (i ∷ []) cs → length (first_of cs) ≤ i.limit
one_within holds i [] h = absurd h
one_within holds i (c ∷ cs) h = h.0

only_first : (Q : List ℕ → Type 0) (holds : Option Files) (i : Input) (cs : List (List ℕ)) → AreContents holds (i ∷ []) cs → Q (first_of cs) → Only Q cs
only_first Q holds i [] h q = absurd h
only_first Q holds i (c ∷ []) h q = q
only_first Q holds i (c ∷ (d ∷ cs)) h q = absurd h.2

-- nothing is given where a source, its arguments or a name is refused
asked_quiet : (input : List ℕ) (a : Asked) (source : List ℕ) (s : Status) (line : List ℕ) → Refuses input a source s line → may_give s ≡ false
asked_quiet input (Time args) source s line q = given_quiet input args source s line q
asked_quiet input (Blind listed list) source s line q = elim q [ inl f ↦ ap may_give f.0 | inr m ↦ ap may_give m.0 ]

module _ (r : Request) (old : Outside) (contents : List (List ℕ)) (are : AreContents old.shelf.holds (file_within r.input source_max ∷ []) contents) where
  pub within : length (first_of contents) ≤ source_max
  within = one_within old.shelf.holds (file_within r.input source_max) contents are

  -- ---- the source or the arguments are refused
  pub refused_does : (new : Outside) → Untouched old new → (stop : Stop) → StopsAs (Refuses r.input r.asked (first_of contents)) stop → Does (request_task r) old new (Err stop)
  refused_does new kept (stops.Refused why) h = content_stops (request_task r) NoProbe old new contents are (quiet contents) kept why (more h)
    where
      quiet : (cs : List (List ℕ)) (s : Status) (line : List ℕ) → Only (λ content. Refuses r.input r.asked content s line) cs → may_give s ≡ false
      quiet [] s line q = absurd q
      quiet (c ∷ []) s line q = asked_quiet r.input r.asked c s line q
      quiet (c ∷ (d ∷ cs)) s line q = absurd q

      more : RefusesBy (Refuses r.input r.asked (first_of contents)) why → RefusesBy ((request_task r).Refuses contents) why
      more h = elim h [
        | inl e ↦ inl e
        | inr p ↦ inr (only_first (λ content. Refuses r.input r.asked content (refusals.status_of why) (refusals.line_of why)) old.shelf.holds (file_within r.input source_max) contents are p)
      ]
  refused_does new kept (stops.Nameless line) h =
      refused status.BadArgs line.items refl
      (contents, are, only_first (λ content. Refuses r.input r.asked content status.BadArgs line.items) old.shelf.holds (file_within r.input source_max) contents are h)
      kept

  -- ---- the lines are printed
  module _ (mid : ShelfState) (out : SinkState) (reads : OnlyReads old.shelf mid) (quiet : mid.read_faults ≡ old.shelf.read_faults)
      (l : Lines) (gives : Gives r.asked (first_of contents) (shown l)) where
    given : OfInputs old.shelf.holds (file_within r.input source_max ∷ []) (λ cs. (request_task r).Gives cs (shown l))
    given = (contents, are, only_first (λ content. Gives r.asked content (shown l)) old.shelf.holds (file_within r.input source_max) contents are gives)

    began : TellsOn (SendsPart l.text.items) old.out.sent out.sent → Began (request_task r) old (outside mid out)
    began part = record { whole = shown l; given = given; files = same_parts [] old.shelf.holds mid.holds reads.files; printed = part }

    pub printed_does : (end : Result Status Stop) → PrintsBy l old.out out end → Does (request_task r) old (outside mid out) end
    printed_does (Ok s) h = (
      shown l,
      record {
        given = given;
        files = same_all old.shelf.holds mid.holds reads.files;
        printed = h.1;
        counts = record { shelf = record { reads = quiet; writes = reads.writes }; prints = h.2 };
      },
      sym h.0,
    )
    printed_does (Err (stops.Refused refusal.Output)) h = unprinted h.0 (began h.1)
    printed_does (Err (stops.Refused refusal.NoMemory)) h = starved (inr (began h))
    printed_does (Err _) h = absurd h

-- ---- words that make no request

pub usage_ends : (old : Outside) (before after : SinkState) (s : Status) → SendsLine status.Usage usage_line before after s → Ends usage_task NoProbe old old before after s
usage_ends old before after _ (sent g) = told status.Usage usage_line (refused status.Usage usage_line refl ([], tt, (refl, refl)) (record { files = refl; out = refl })) g
usage_ends old before after _ (refusals.cut p) = cut status.Usage usage_line (refused status.Usage usage_line refl ([], tt, (refl, refl)) (record { files = refl; out = refl })) p

-- ---- the line of a stop

line_ends : (t : Task) (old new : Outside) (before after : SinkState) (s : Status) (line : List ℕ) (end : Status) → Stops t NoProbe old new s line → SendsLine s line before after end
    → Ends t NoProbe old new before after end
line_ends t old new before after s line _ stops (sent g) = told s line stops g
line_ends t old new before after s line _ stops (refusals.cut p) = cut s line stops p

pub stopped_ends : (t : Task) (old new : Outside) (before after : SinkState) (stop : Stop) (s : Status) → Does t old new (Err stop) → SendsStop stop before after s
    → Ends t NoProbe old new before after s
stopped_ends t old new before after (stops.Refused r) s d h = refusal_ends t NoProbe old new before after r s d h
stopped_ends t old new before after (stops.Nameless line) s d h = line_ends t old new before after status.BadArgs line.items s d h

-- ---- what was printed at Ok

prints : (Q : List ℕ → Type 0) (text : List ℕ) (before after : Option (List ℕ)) → Q text → TellsOn (Sends text) before after
    → TellsOn (λ old new. (x : List ℕ) × Q x × Sends x old new) before after
prints Q text None after q sends = tt
prints Q text (Some old) None q sends = sends
prints Q text (Some old) (Some new) q sends = (text, q, sends)

in_file : (Q : List ℕ → Type 0) (holds : Option Files) (i : Input) (content : List ℕ) → AreContents holds (i ∷ []) (content ∷ []) → Q content → OfFile holds i.name Q
in_file Q None i content are q = tt
in_file Q (Some files) i content are q = let begins : file_of files i.name ≡ Some content = are.1 in subst (λ (o : Option (List ℕ)). IsSomeAnd o Q) (sym begins) q

no_lines : true ≡ false → ⊥
no_lines e = cc

-- figures that came are those of an evaluation
timed_text : (args : List (List ℕ)) (source : List ℕ) (g : Given) → GivesTime args source g → g.comes ≡ true → IsTimed args source g.printed
timed_text args source g h comes = elim h.gives [
  | inl f ↦ (h.program, h.names, h.choice, h.words, f.0, h.source_of, h.plan, h.arguments, f.1, ap (λ (x : Given). x.printed) f.2)
  | inr f ↦ absurd (no_lines (sym comes ∙ ap (λ (x : Given). x.comes) f.1))
]

comes_at_ok : (b : Bool) → status_if b ≡ status.Ok → b ≡ true
comes_at_ok true e = refl
comes_at_ok false e = absurd (cc)

-- where it is asked about secret parameters, and the answer came, no secret one decides about time
blind_text : (listed : Bool) (list source : List ℕ) (g : Given) → GivesBlind listed list source g → g.comes ≡ true → IsBlind listed list source g.printed
blind_text listed list source g h comes = elim h.gives [
  | inl f ↦ (h.program, h.names, h.source_of, f.0, ap (λ (x : Given). x.printed) f.1)
  | inr f ↦ absurd (no_lines (sym comes ∙ ap (λ (x : Given). x.comes) f.1))
]

-- where a request ends with Ok, what was printed has the property that what comes for it has
asked_ok : (r : Request) (Q : List ℕ → List ℕ → Type 0) → ((source : List ℕ) (g : Given) → Gives r.asked source g → g.comes ≡ true → Q source g.printed)
    → (old new : Outside) (before after : SinkState) (s : Status) → Ends (request_task r) NoProbe old new before after s → s ≡ status.Ok
    → OfFile old.shelf.holds r.input (λ source. IsPrinted (Q source) old.out new.out)
asked_ok r Q text old new before after s ends ok =
    let y = gave_at_ok (request_task r) NoProbe old new before after s ends ok in
    go y.0 y.1.given.0 y.1.given.1 y.1.given.2 y.1.printed (comes_at_ok y.0.comes y.2)
  where
    go : (g : Given) (cs : List (List ℕ)) → AreContents old.shelf.holds (file_within r.input source_max ∷ []) cs → Only (λ content. Gives r.asked content g) cs
        → TellsOn (Sends g.printed) old.out.sent new.out.sent → g.comes ≡ true → OfFile old.shelf.holds r.input (λ source. IsPrinted (Q source) old.out new.out)
    go g [] are gives sends comes = absurd gives
    go g (c ∷ (d ∷ cs)) are gives sends comes = absurd gives
    go g (c ∷ []) are gives sends comes =
        in_file (λ source. IsPrinted (Q source) old.out new.out) old.shelf.holds (file_within r.input source_max) c are
        (prints (Q c) g.printed old.out.sent new.out.sent (text c g gives comes) sends)

pub times_ok : (input : List ℕ) (args : List (List ℕ)) (old new : Outside) (before after : SinkState) (s : Status)
    → Ends (request_task (asks input (Time args))) NoProbe old new before after s → s ≡ status.Ok
    → OfFile old.shelf.holds input (λ source. IsPrinted (IsTimed args source) old.out new.out)
times_ok input args = asked_ok (asks input (Time args)) (IsTimed args) (timed_text args)

pub blind_ok : (input list : List ℕ) (listed : Bool) (old new : Outside) (before after : SinkState) (s : Status)
    → Ends (request_task (asks input (Blind listed list))) NoProbe old new before after s → s ≡ status.Ok
    → OfFile old.shelf.holds input (λ source. IsPrinted (IsBlind listed list source) old.out new.out)
blind_ok input list listed = asked_ok (asks input (Blind listed list)) (IsBlind listed list) (blind_text listed list)
