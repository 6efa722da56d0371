-- A session that is held call by call.
use Rattle.safl_session.proofs.Common.{AreWords, FitWidths, IsSilent, Netlist, Replies, TellsOn, Word, slice_get_within}
use Rattle.std.proofs.Common.{◌≡◌, ℕ, ◌+◌, ◌≤◌, List, [], ◌∷◌, ◌++◌, length, take, drop, Bool, true, false, if◌then◌else◌, Some, slice_get, slice_index, sym, ap, subst, ◌∙◌, arith, append_assoc}
use Rattle.std.proofs.lemmas.Bool.{eq-eqb, ne_eqb}
use Rattle.std.proofs.lemmas.List.{append-nil, take-append-drop, length-take-le, take_all}
use Rattle.std.proofs.lemmas.List.Elements.{All-drop}
use Rattle.safl_io.specs.Sink.{SinkState, Sends, SendsPart}
use Rattle.safl_word.proofs.Lists.{take_next}
use Rattle.safl_net.specs.Arguments.{AreArguments}
use Rattle.safl_sim.specs.declared.done.Done.{Done as Reply}
use Rattle.safl_session.specs.Laws.{AreCallsOf}
use Rattle.safl_session.specs.Replies.{AreReplies, AllReply}
use Rattle.safl_session.specs.Sessions.{Opened}
use Rattle.safl_session.proofs.OneListOfReplies.{replies_exist, replies_join, all_more}
use Rattle.safl_session.specs.Transcripts.{reply_line, reply_lines, calls_line, late_line, are_all, transcript}
use Rattle.safl_session.specs.Holding.{IsReady, IsHeld, IsBegun}
use Rattle.safl_session.proofs.SentLines.{both_sent, part_sent}
use Rattle.safl_run.proofs.OneAnswer.{after_fits}
use Rattle.safl_session.proofs.ReadyStates.{split_at, all_at, lines_append, lines_more, all_replies, all_long}

-- so many of the calls were made, each had its reply, and the lines of these were sent
pub record HeldTo (o : Opened) (calls : List (List Word)) (limit count : ℕ) (now : Opened) (old new : SinkState) : Type 0 where
  pub replies : List Reply
  pub replied : AllReply o.net limit (slice_index o.state) (take count calls) replies (slice_index now.state)
  pub net : now.net ≡ o.net
  pub opened : now.is_open ≡ true
  pub state : FitWidths o.net (slice_index now.state)
  pub sent : TellsOn (Sends (reply_lines replies)) old.sent new.sent
  pub quiet : new.faults ≡ old.faults

-- the arguments of the next call fit its net
pub next_arguments : (o : Opened) (calls : List (List Word)) (limit i : ℕ) (now : Opened) (old mid : SinkState) (args : List Word) → AreCallsOf o.net
    calls → HeldTo o calls limit i now old mid → slice_get calls i ≡ Some args
    → AreArguments now.net args
next_arguments o calls limit i now old mid args are h at =
    subst (λ (x : Netlist). AreArguments x args) (sym h.net) (all_at (λ a. AreWords a × AreArguments o.net a) calls i args are at).1

-- the text of replies of which each call has one, and of those of which one has none
whole_text : (limit count : ℕ) (rs : List Reply) → length rs ≡ count → transcript limit count rs ≡ reply_lines rs ++ calls_line count
whole_text limit count rs e = ap (λ (b : Bool). reply_lines rs ++ (if b then calls_line count else late_line limit)) (eq-eqb (length rs) count e)

late_text : (limit count : ℕ) (rs : List Reply) → (length rs ≡ count → ⊥) → transcript limit count rs ≡ reply_lines rs ++ late_line limit
late_text limit count rs e = ap (λ (b : Bool). reply_lines rs ++ (if b then calls_line count else late_line limit)) (ne_eqb (length rs) count e)

module _ (o : Opened) (calls : List (List Word)) (limit : ℕ) (ready : IsReady o) (are : AreCallsOf o.net calls) where
  abbrev start : ℕ → ℕ
  start = slice_index o.state

  module _ (i : ℕ) (now : Opened) (old mid new : SinkState) (h : HeldTo o calls limit i now old mid) where
    -- the next call has its reply
    module _ (args : List Word) (at : slice_get calls i ≡ Some args) (r : Reply) (after : Opened) (replies : Replies now.net limit (slice_index now.state) args r (slice_index after.state)) where
      reply : Replies o.net limit (slice_index now.state) args r (slice_index after.state)
      reply = subst (λ (x : Netlist). Replies x limit (slice_index now.state) args r (slice_index after.state)) h.net replies

      more : AllReply o.net limit start (take (i + 1) calls) (h.replies ++ r ∷ []) (slice_index after.state)
      more = subst (λ (l : List (List Word)). AllReply o.net limit start l (h.replies ++ r ∷ []) (slice_index after.state)) (sym (take_next calls i args at))
          (all_more o.net limit start (slice_index now.state) (slice_index after.state) (take i calls) h.replies args r h.replied reply)

      state : FitWidths o.net (slice_index after.state)
      state = after_fits o.net ready.made limit (slice_index now.state) (slice_index after.state) args r reply

      pub held_more : after.net ≡ now.net → after.is_open ≡ true → TellsOn (Sends (reply_line r)) mid.sent new.sent → new.faults ≡ mid.faults
          → HeldTo o calls limit (i + 1) after old new
      held_more net opened sent quiet = record {
        replies = h.replies ++ r ∷ [];
        replied = more;
        net = net ∙ h.net;
        opened = opened;
        state = state;
        sent = subst (λ (l : List ℕ). TellsOn (Sends l) old.sent new.sent) (sym (lines_more h.replies r)) (both_sent (reply_lines h.replies) (reply_line r) old.sent mid.sent new.sent h.sent sent);
        quiet = quiet ∙ h.quiet;
      }

      -- a part of its line was sent
      pub reply_begun : TellsOn (SendsPart (reply_line r)) mid.sent new.sent → IsBegun o calls limit old.sent new.sent
      reply_begun part =
          let rest : List (List Word) = drop (i + 1) calls in
          let x = replies_exist o.net ready.made ready.whole ready.acyclic limit (slice_index after.state) state rest (All-drop (λ a. AreWords a × AreArguments o.net a) (i + 1) calls are) in
          let rs : List Reply = (h.replies ++ r ∷ []) ++ x.0 in
          let joined = replies_join o.net limit start (slice_index after.state) (take (i + 1) calls) rest (h.replies ++ r ∷ []) x.0 more x.1 in
          let behind : List ℕ = reply_lines x.0 ++ (if are_all (length calls) rs then calls_line (length calls) else late_line limit) in
          let text : transcript limit (length calls) rs ≡ (reply_lines h.replies ++ reply_line r) ++ behind =
          ap (λ (l : List ℕ). l ++ (if are_all (length calls) rs then calls_line (length calls) else late_line limit))
          (lines_append (h.replies ++ r ∷ []) x.0 ∙ ap (λ (l : List ℕ). l ++ reply_lines x.0) (lines_more h.replies r))
          ∙ append_assoc (reply_lines h.replies ++ reply_line r) (reply_lines x.0) (if are_all (length calls) rs then calls_line (length calls) else late_line limit) in
          record {
            replies = rs;
            are = subst (λ (l : List (List Word)). AreReplies o.net limit start l rs) (take-append-drop (i + 1) calls) joined;
            sent = part_sent (reply_lines h.replies) (reply_line r) behind (transcript limit (length calls) rs) text old.sent mid.sent new.sent h.sent part;
          }

    -- the next call has none
    module _ (args : List Word) (at : slice_get calls i ≡ Some args) (silent : IsSilent now.net limit (slice_index now.state) args) where
      silence : IsSilent o.net limit (slice_index now.state) args
      silence = subst (λ (x : Netlist). IsSilent x limit (slice_index now.state) args) h.net silent

      replied : AreReplies o.net limit start calls h.replies
      replied =
          subst (λ (l : List (List Word)). AreReplies o.net limit start l h.replies) (split_at calls i args at)
          (subst (λ (l : List Reply). AreReplies o.net limit start (take i calls ++ args ∷ drop (i + 1) calls) l) (append-nil h.replies)
          (replies_join o.net limit start (slice_index now.state) (take i calls) (args ∷ drop (i + 1) calls) h.replies [] h.replied silence))

      fewer : length h.replies ≡ length calls → ⊥
      fewer e =
          let a = slice_get_within calls i args at in
          let b = all_long o.net limit start (slice_index now.state) (take i calls) h.replies h.replied in
          let d = length-take-le i calls (omega (arith, a)) in
          omega (arith, a, b, d, e)

      pub late_held : TellsOn (Sends (late_line limit)) mid.sent new.sent → IsHeld o calls limit old.sent new.sent false
      late_held sent = record {
        replies = h.replies;
        are = replied;
        is = sym (ne_eqb (length h.replies) (length calls) fewer);
        sent = subst (λ (l : List ℕ). TellsOn (Sends l) old.sent new.sent) (sym (late_text limit (length calls) h.replies fewer))
            (both_sent (reply_lines h.replies) (late_line limit) old.sent mid.sent new.sent h.sent sent);
      }

      pub late_begun : TellsOn (SendsPart (late_line limit)) mid.sent new.sent → IsBegun o calls limit old.sent new.sent
      late_begun part = record {
        replies = h.replies;
        are = replied;
        sent =
            part_sent (reply_lines h.replies) (late_line limit) [] (transcript limit (length calls) h.replies)
            (late_text limit (length calls) h.replies fewer ∙ sym (append-nil (reply_lines h.replies ++ late_line limit))) old.sent mid.sent new.sent h.sent part;
      }

    -- there is none left
    module _ (all : length calls ≤ i) where
      every : AllReply o.net limit start calls h.replies (slice_index now.state)
      every = subst (λ (l : List (List Word)). AllReply o.net limit start l h.replies (slice_index now.state)) (take_all i calls all) h.replied

      long : length h.replies ≡ length calls
      long = all_long o.net limit start (slice_index now.state) calls h.replies every

      pub all_held : TellsOn (Sends (calls_line (length calls))) mid.sent new.sent → IsHeld o calls limit old.sent new.sent true
      all_held sent = record {
        replies = h.replies;
        are = all_replies o.net limit start (slice_index now.state) calls h.replies every;
        is = sym (eq-eqb (length h.replies) (length calls) long);
        sent = subst (λ (l : List ℕ). TellsOn (Sends l) old.sent new.sent) (sym (whole_text limit (length calls) h.replies long))
            (both_sent (reply_lines h.replies) (calls_line (length calls)) old.sent mid.sent new.sent h.sent sent);
      }

      pub all_begun : TellsOn (SendsPart (calls_line (length calls))) mid.sent new.sent → IsBegun o calls limit old.sent new.sent
      all_begun part = record {
        replies = h.replies;
        are = all_replies o.net limit start (slice_index now.state) calls h.replies every;
        sent =
            part_sent (reply_lines h.replies) (calls_line (length calls)) [] (transcript limit (length calls) h.replies)
            (whole_text limit (length calls) h.replies long ∙ sym (append-nil (reply_lines h.replies ++ calls_line (length calls)))) old.sent mid.sent new.sent h.sent part;
      }
