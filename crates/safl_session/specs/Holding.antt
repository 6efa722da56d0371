-- What was sent during a session.
use Rattle.std.specs.Prelude.{◌≡◌, ℕ, List, length, Option, Bool, true, slice_index}
use Rattle.safl_io.specs.Sink.{Sends, SendsPart}
use Rattle.safl_io.specs.Told.{TellsOn}
use Rattle.safl_net.specs.Laws.{FitWidths}
use Rattle.safl_net.specs.Rules.{IsNetlist}
use Rattle.safl_net.specs.Valuations.{IsAcyclic}
use Rattle.safl_net.specs.Whole.{IsWhole}
use Rattle.safl_sim.specs.declared.done.Done.{Done as Reply}
use Rattle.safl_session.specs.Replies.{AreReplies}
use Rattle.safl_session.specs.Sessions.{Opened}
use Rattle.safl_word.specs.Words.{Word}
use Rattle.safl_session.specs.Transcripts.{are_all, transcript}

-- the session can be called, its net is whole and has no loops, and its state has the widths of the net
pub record IsReady (o : Opened) : Type 0 where
  pub opened : o.is_open ≡ true
  pub made : IsNetlist o.net
  pub whole : IsWhole o.net
  pub acyclic : IsAcyclic o.net
  pub state : FitWidths o.net (slice_index o.state)

-- the transcript of the replies to these calls was sent. `complete` says whether each call has its reply
pub record IsHeld (o : Opened) (calls : List (List Word)) (limit : ℕ) (old new : Option (List ℕ)) (complete : Bool) : Type 0 where
  pub replies : List Reply
  pub are : AreReplies o.net limit (slice_index o.state) calls replies
  pub is : complete ≡ are_all (length calls) replies
  pub sent : TellsOn (Sends (transcript limit (length calls) replies)) old new

-- a prefix of the transcript of the replies to these calls was sent
pub record IsBegun (o : Opened) (calls : List (List Word)) (limit : ℕ) (old new : Option (List ℕ)) : Type 0 where
  pub replies : List Reply
  pub are : AreReplies o.net limit (slice_index o.state) calls replies
  pub sent : TellsOn (SendsPart (transcript limit (length calls) replies)) old new
