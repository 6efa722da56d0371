use Rattle.std.proofs.Common.{◌≡◌, ◌+◌, ◌-◌, ◌∷◌, [], ℕ, Some, length, set, get_or, slice_get, sym, subst, ◌∙◌, arith, false}
use Rattle.std.proofs.lemmas.Option.{slice_get-get_or}
use Rattle.safl_sim.specs.declared.step.Register.{Register}
use Rattle.safl_sim.specs.Marks.{first_register}
use Rattle.safl_sim.specs.Readers.{AreLists}
use Rattle.safl_sim.proofs.Tables.{lists_register}
use Rattle.safl_sim.proofs.table.push_nexts.Goals as goal

abbrev none : Register
none = record { signal = record { 0 = 0 }; next = record { 0 = 0 }; narrow = false }

pub registers-preserved : goal.registers-preserved
registers-preserved c =
    let regs = c.args.registers.now in
    let i = c.registers.i in
    let k : ℕ = length regs - 1 - i in
    let early = c.registers-test.true in
    let r = get_or regs k none in
    let at : slice_get regs k ≡ Some r = slice_get-get_or regs k none (omega (arith, early)) in
    let lists = c.registers.lists in
    let v = get_or lists r.next.0 [] in
    let here = slice_get-get_or lists r.next.0 [] (let a = c.requires.within k r at in let b = c.registers.invariant.long in omega (arith, a, b)) in
    let mark = c.in_ok-mark.mark in
    record {
      long = c.push.ensures.long ∙ c.registers.invariant.long;
      lists = λ n ws e w.
          let p : ℕ = first_register (length ws) + k in
          let before = subst (λ x. AreLists n ws regs x 0 lists) (let z : c.args.first + (length regs - i) ≡ p + 1 = omega (arith, e, early) in z) (c.registers.invariant.lists n ws e w) in
          let number : mark ≡ p = (let a = c.in_ok-mark.ensures.number in omega (arith, a, e)) in
          subst (λ l. AreLists n ws regs (c.args.first + (length regs - (i + 1))) 0 l) (sym (c.in_ok-push.ensures.pushed v here))
          (subst (λ x. AreLists n ws regs x 0 (set lists r.next.0 (mark ∷ v))) (let z : p ≡ c.args.first + (length regs - (i + 1)) = omega (arith, e, early) in z)
          (subst (λ y. AreLists n ws regs p 0 (set lists r.next.0 (y ∷ v))) (sym number) (lists_register n ws regs k r lists v before at here)));
    }
