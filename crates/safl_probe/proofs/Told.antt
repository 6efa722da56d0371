-- What entries tell, before a frame and after it.
use Rattle.safl_probe.proofs.Common.{Entry, Netlist, ProbeState, Spot, Valuation, after_frame, begun, eqb-suc-zero}
use Rattle.std.proofs.Common.{◌≡◌, ℕ, suc, ◌+◌, List, map, length, Option, Some, None, Bool, cond, sym, ap, subst, ◌∙◌, add-one}
use Rattle.safl_probe.specs.Watching.{Watched, kind_of, seen, watched_by}
use Rattle.safl_probe.specs.Entries.{watched_all, spot_of, watched_from, numbers, looked_all, told_of}
use Rattle.safl_probe.specs.declared.stage.Stage.{Stage}
use Rattle.safl_probe.specs.declared.stage.Stage.TheVariants as stage
use Rattle.safl_probe.proofs.Spots.{drop_none, watched_spots, same_named, new_numbers}

abbrev pub state_on : ℕ → ℕ → List Watched → Option (List ℕ) → ℕ → ProbeState
state_on kind signals ws last turn = record {
  kind = kind;
  stage = stage.Watching;
  shape = record { signals = signals; watched = ws };
  last = last;
  turn = turn;
  faults = 0;
}

-- after the beginning
pub told_begun : (n : Netlist) (kind : ℕ) (b : Stage) (signals : ℕ) (es old : List Entry) (ss older : List Spot) (turn : ℕ)
    → signals ≡ length n.signals → watched_all es ≡ watched_by (kind_of kind) n → ss ≡ map spot_of es
    → (earlier : ℕ) → told_of kind stage.Watching signals es ss 0 ≡ begun n (told_of kind b earlier old older turn)
told_begun n kind b signals es old ss older turn count are made earlier =
    ap (λ (k : ℕ). state_on kind k (watched_from 0 es ss) None 0) count
    ∙ ap (λ (l : List Spot). state_on kind (length n.signals) (watched_from 0 es l) None 0) made
    ∙ ap (λ (ws : List Watched). state_on kind (length n.signals) ws None 0) (watched_spots 0 es es (drop_none es) ∙ are)

-- after a frame
pub told_after : (kind : ℕ) (b : Stage) (signals : ℕ) (es : List Entry) (ss now : List Spot) (t turn : ℕ) (frame : Valuation) → b ≡ stage.Watching → t ≡ turn → now ≡ looked_all frame ss
    → told_of kind stage.Watching signals es now (t + 1) ≡ after_frame frame (told_of kind b signals es ss turn)
told_after kind b signals es ss now t turn frame is same after =
    subst (λ (x : Stage). told_of kind stage.Watching signals es now (t + 1) ≡ after_frame frame (told_of kind x signals es ss t)) (sym is) (
    ap (λ (k : ℕ). told_of kind stage.Watching signals es now k) (add-one t)
    ∙ ap (λ (x : Bool). state_on kind signals (watched_from 0 es now) (cond x None (Some (numbers now))) (suc t)) (eqb-suc-zero t)
    ∙ ap (λ (l : List Spot). state_on kind signals (watched_from 0 es l) (Some (numbers l)) (suc t)) after
    ∙ ap (λ (l : List Watched). state_on kind signals l (Some (numbers (looked_all frame ss))) (suc t)) (same_named 0 es ss frame)
    ∙ ap (λ (l : List ℕ). state_on kind signals (watched_from 0 es ss) (Some l) (suc t)) (new_numbers 0 es ss frame)
    ∙ ap (λ (k : ℕ). state_on kind signals (watched_from 0 es ss) (Some (seen (watched_from 0 es ss) frame)) k) (sym (add-one t)))
    ∙ ap (λ (k : ℕ). after_frame frame (told_of kind b signals es ss k)) same
