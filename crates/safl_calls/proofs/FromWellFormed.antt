-- What the proofs use follows from a well-formed program.
use Rattle.std.proofs.Common.{ℕ, zero, suc, ◌<◌, ◌≤◌, sym, subst, arith, true}
use Rattle.safl_term.specs.Program.{Program}
use Rattle.safl_term.specs.WellFormed.{IsWellFormed}
use Rattle.safl_term.proofs.Order.{stands_within, once_of, loops_of, counted_of}
use Rattle.safl_calls.proofs.Numbered.{Numbered}

pub numbered : (C : Program) → IsWellFormed C → Numbered C
numbered C wf = record {
  outside = wf.main;
  callee_in = callee_in;
  caller_in = λ k pos le. (wf.calls k pos le).0;
  earlier = λ k pos le. (wf.calls k pos le).2;
  last = λ f lt. subst (λ m. C.unit f ≤ C.unit m) wf.main (wf.numbered.top f);
  again = λ f lt. (wf.first f lt).1;
  first = λ f lt. (wf.first f lt).0;
  main_last = λ k pos le e. let c = (wf.calls k pos le).2 in let t = subst (λ m. C.unit (C.caller k) ≤ C.unit m) wf.main (wf.numbered.top (C.caller k)) in absurd (omega arith);
  own = λ f k lt st.
      let b = wf.numbered.bodies f in
      let w = stands_within C f true b.0 b.1 (C.body f) k b.3 st in
      (omega (arith, b.2, w.above), omega (arith, w.below, wf.sites f lt), w.caller);
  counted = λ f lt. let b = wf.numbered.bodies f in counted_of C f true b.0 b.1 (C.params f) (C.result f) (C.body f) b.3 (wf.widths f lt);
  once = λ f lt. let b = wf.numbered.bodies f in once_of C f true b.0 b.1 (C.body f) b.3;
  loops = λ f h lt l. let b = wf.numbered.bodies f in loops_of C f true b.0 b.1 (C.params f) (C.result f) (C.body f) h b.3 (wf.widths f lt) l;
}
  where
    callee_in : (k : ℕ) → k ≤ C.sites → C.callee k < C.functions
    callee_in zero le = subst (λ m. m < C.functions) (sym wf.main) wf.main_in
    callee_in (suc k) le = (wf.calls (suc k) (omega arith) le).1
