use Rattle.safl_lower.proofs.Common.{IsSource, Primitive, Sig, Val, Wired, apply_prim, result_width, words}
use Rattle.std.proofs.Common.{◌≡◌, ℕ, List, IfOk, slice_index_or, sym, ap, subst, ◌∙◌, arith}
use Rattle.safl_word.specs.declared.primitive.Primitive.TheVariants.{Ext}
use Rattle.safl_lower.proofs.Extending.{cell_width, operand}
use Rattle.safl_lower.proofs.primitives.apply.Goals as goal
use Rattle.safl_lower.proofs.Building.{builds_within}

pub extend-requires-clause-narrow : goal.extend-requires-clause-narrow
extend-requires-clause-narrow c =
    let b = c.requires.sized in
    let o = operand c.args.net.now c.args.operands.now b.0 (record { 0 = 0 }) c.in-Ext.width b.1 b.2 (ap (λ (p : Primitive). result_width p b.0) (sym c.in-Ext.is) ∙ b.3) in
    (o.narrow, o.sized, o.some, o.below)

pub returns-in-Ext-clause-word : goal.returns-in-Ext-clause-word
returns-in-Ext-clause-word c =
    let b = c.requires.sized in
    let a = slice_index_or c.args.operands.now 0 (record { 0 = 0 }) in
    let o = operand c.args.net.now c.args.operands.now b.0 (record { 0 = 0 }) c.in-Ext.width b.1 b.2 (ap (λ (p : Primitive). result_width p b.0) (sym c.in-Ext.is) ∙ b.3) in
    record {
      fits = λ ws w p q.
          let e = operand c.args.net.now c.args.operands.now ws (record { 0 = 0 }) c.in-Ext.width w p (ap (λ (x : Primitive). result_width x ws) (sym c.in-Ext.is) ∙ q) in
          subst (λ (k : ℕ). IfOk c.extend.result (λ s. IsSource c.extend.new.net s k)) e.wide c.extend.ensures.fits;
      value =
          subst (λ (p : Primitive). IfOk c.extend.result (λ s. (v : Val) → Wired c.extend.new.net v → v s.0 ≡ apply_prim p (words v c.args.operands.now))) (sym c.in-Ext.is)
          (subst (λ (xs : List Sig). IfOk c.extend.result (λ s. (v : Val) → Wired c.extend.new.net v → v s.0 ≡ apply_prim (Ext c.in-Ext.width) (words v xs))) (sym o.is) c.extend.ensures.value);
    }

pub returns-in_default : goal.returns-in_default
returns-in_default c =
    let e = c.operate.ensures in
    record {
      built = builds_within 5 e.built (omega arith);
      word = record { fits = λ ws w p q. e.word.fits ws w p (cell_width c.args.primitive ws c.in_default.not-Ext ∙ q); value = e.word.value };
    }
