-- The length of a text.
use Rattle.std.proofs.Common.{◌≡◌, ℕ, suc, ◌+◌, ◌-◌, ◌*◌, ◌^◌, ◌<◌, ◌≤◌, List, [], ◌∷◌, length, Bool, true, false, cond, ◌&&◌, nat_le, nat_lt, not}
use Rattle.std.proofs.Common.{Option, Some, None, refl, arith, lit<, lit≤, length-append}
use Rattle.std.specs.Prelude.{codes, slice_get}
use Rattle.std.specs.List.{flat_map}
use Rattle.std.specs.Fmt.{decimal}
use Rattle.std.proofs.Math.Pow.{pow_mono}
use Rattle.std.proofs.lemmas.Fmt.{length-decimal-le_wide}
use Rattle.std.proofs.lemmas.Bool.{and_parts}
use Rattle.std.proofs.lemmas.Bool.Decides.{nat_tests}
use Rattle.safl_word.specs.declared.primitive.Primitive.{Primitive}
use Rattle.safl_word.proofs.Widths.{only_where}
use Rattle.safl_word.specs.declared.primitive.Primitive.TheVariants.{Add, Sub, Mul, And, Or, Xor, Not, Eq, Ne, Lt, Le, Gt, Ge, Shl, Shr, Cat, Bits, Ext}
use Rattle.safl_word.proofs.Naturals.{number_short, short_is}
use Rattle.safl_net.specs.declared.cell.Op.{Op}
use Rattle.safl_net.specs.declared.cell.Op.TheVariants.{Const, Copy, Mux, Apply}
use Rattle.safl_net.specs.Netlist.{Netlist, Signal, Kind, Input, Reg, Wire, width_of, width_in}
use Rattle.safl_net.specs.Names.{is_good, is_identifier, is_reserved}
use Rattle.safl_net.specs.Widths.{op_width, HasWord}
use Rattle.safl_net.specs.Rules.{IsNetlist, SignalFits, KindFits}
use Rattle.safl_net.specs.Making.{name_at, name_in, signal_widths}
use Rattle.safl_net.specs.CellTexts.{two_operands, inverted, joined_texts, sliced, plain, selected}
use Rattle.safl_net.specs.Written.{Text, literal, declaration, operation_text, operation, names_of}
use Rattle.safl_net.specs.Written.{if_input, if_register, if_wire}
use Rattle.safl_net.specs.WrittenParts.{port, input_port, output_port, input_declaration, output_declaration}
use Rattle.safl_net.specs.Written.{assignment, cell_assignment, update}
use Rattle.safl_net.specs.WrittenParts.{register_declaration, wire_declaration, wire_assignment, output_assignment}
use Rattle.safl_net.specs.Written.{next_update, written}
use Rattle.safl_net.specs.WrittenParts.{register_update}
use Rattle.safl_vwrite.specs.Sizes.{text_max}

-- ---- names and numbers

name_short : (name : Text) → is_good name ≡ true → length name ≤ 200
unfolding is_good
name_short name h = short_is (length name) (and_parts (is_identifier name) (nat_le (length name) 200) (and_parts (is_identifier name && nat_le (length name) 200) (not (is_reserved name)) h).0).1

word_short : (w n : ℕ) → w ≤ 128 → n < 2 ^ w → length (decimal n) ≤ 39
word_short w n b h =
    let most = pow_mono b in
    let wide : 2 ^ 128 < 10 ^ 39 = lit< tt in
    let wider : 2 ^ 128 < 10 ^ 64 = lit< tt in
    length-decimal-le_wide 39 n (lit< tt) (omega arith) (omega arith)

literal_short : (w n : ℕ) → w ≤ 128 → n < 2 ^ w → length (literal w n) ≤ 44
literal_short w n b h =
    let digits = number_short w (omega arith) in
    let bits = word_short w n b h in
    simp length-append (omega arith)

declaration_short : (keyword : Text) (w : ℕ) (name : Text) → length keyword ≤ 6 → w ≤ 128 → length name ≤ 200 → length (declaration keyword w name) ≤ 219
declaration_short keyword w name k b h =
    let digits = number_short (w - 1) (omega arith) in
    simp length-append (omega arith)

-- ---- cells

module _ (n : Netlist) (net : IsNetlist n) where
  name_at_short : (s : ℕ) → length (name_at n s) ≤ 200
  name_at_short s = go (slice_get n.signals s) refl
    where
      go : (o : Option Signal) → slice_get n.signals s ≡ o → length (name_in o) ≤ 200
      go None e = omega arith
      go (Some g) e = name_short g.name (net.signals s g e).good

  width_short : (s : ℕ) → width_of n s ≤ 128
  width_short s = go (slice_get n.signals s) refl
    where
      go : (o : Option Signal) → slice_get n.signals s ≡ o → width_in o ≤ 128
      go None e = omega arith
      go (Some g) e = (net.signals s g e).most

  plain_short : (xs : List ℕ) → length (plain (names_of n xs)) ≤ 200
  plain_short [] = omega arith
  plain_short (a ∷ []) = name_at_short a
  plain_short (a ∷ (b ∷ xs)) = omega arith

  selected_short : (xs : List ℕ) → length (selected (names_of n xs)) ≤ 606
  selected_short [] = omega arith
  selected_short (a ∷ []) = omega arith
  selected_short (a ∷ (b ∷ [])) = omega arith
  selected_short (a ∷ (b ∷ (c ∷ []))) =
      let x = name_at_short a in
      let y = name_at_short b in
      let z = name_at_short c in
      simp length-append (omega arith)
  selected_short (a ∷ (b ∷ (c ∷ (d ∷ xs)))) = omega arith

  two_short : (s : Text) (xs : List ℕ) → length s ≤ 2 → length (two_operands s (names_of n xs)) ≤ 404
  two_short s [] h = omega arith
  two_short s (a ∷ []) h = omega arith
  two_short s (a ∷ (b ∷ [])) h =
      let x = name_at_short a in
      let y = name_at_short b in
      simp length-append (omega arith)
  two_short s (a ∷ (b ∷ (c ∷ xs))) h = omega arith

  inverted_short : (xs : List ℕ) → length (inverted (names_of n xs)) ≤ 201
  inverted_short [] = omega arith
  inverted_short (a ∷ []) = let x = name_at_short a in omega arith
  inverted_short (a ∷ (b ∷ xs)) = omega arith

  joined_short : (xs : List ℕ) → length (joined_texts (names_of n xs)) ≤ 404
  joined_short [] = omega arith
  joined_short (a ∷ []) = omega arith
  joined_short (a ∷ (b ∷ [])) =
      let x = name_at_short a in
      let y = name_at_short b in
      simp length-append (omega arith)
  joined_short (a ∷ (b ∷ (c ∷ xs))) = omega arith

  -- a slice of a word has bounds below its width
  bounds : (high low w v : ℕ) → cond (nat_le low high && nat_lt high w) (Some (high - low + 1)) None ≡ Some v → (low ≤ high) × (high < w)
  bounds high low w v e = let p = passed (nat_le low high && nat_lt high w) e in let q = and_parts (nat_le low high) (nat_lt high w) p in (in_order q.0, below q.1)
    where
      passed : (b : Bool) → cond b (Some (high - low + 1)) None ≡ Some v → b ≡ true
      passed true a = refl
      passed false a = absurd cc

      in_order : nat_le low high ≡ true → low ≤ high
      in_order e = grind (arith, nat_tests)

      below : nat_lt high w ≡ true → high < w
      below e = grind (arith, nat_tests)

  sliced_short : (high low : ℕ) (xs : List ℕ) (v : ℕ) → op_width (Apply (Bits high low)) (signal_widths n xs) ≡ Some v → length (sliced high low (names_of n xs)) ≤ 209
  sliced_short high low [] v e = omega arith
  sliced_short high low (a ∷ []) v e =
      let x = name_at_short a in
      let b = bounds high low (width_of n a) v (only_where _ _ v e) in
      let w = width_short a in
      let h = number_short high (omega (arith, b.1)) in
      let l = number_short low (omega (arith, b.0, b.1)) in
      simp length-append (omega arith)
  sliced_short high low (a ∷ (b ∷ xs)) v e = omega arith

  applied_short : (p : Primitive) (xs : List ℕ) (v : ℕ) → op_width (Apply p) (signal_widths n xs) ≡ Some v → length (operation_text p (names_of n xs)) ≤ 606
  applied_short Not xs v e = omega (arith, inverted_short xs)
  applied_short Cat xs v e = omega (arith, joined_short xs)
  applied_short (Bits high low) xs v e = omega (arith, sliced_short high low xs v e)
  applied_short (Ext width) xs v e = omega arith
  applied_short Add xs v e = omega (arith, two_short (codes "+") xs (lit≤ tt))
  applied_short Sub xs v e = omega (arith, two_short (codes "-") xs (lit≤ tt))
  applied_short Mul xs v e = omega (arith, two_short (codes "*") xs (lit≤ tt))
  applied_short And xs v e = omega (arith, two_short (codes "&") xs (lit≤ tt))
  applied_short Or xs v e = omega (arith, two_short (codes "|") xs (lit≤ tt))
  applied_short Xor xs v e = omega (arith, two_short (codes "^") xs (lit≤ tt))
  applied_short Eq xs v e = omega (arith, two_short (codes "==") xs (lit≤ tt))
  applied_short Ne xs v e = omega (arith, two_short (codes "!=") xs (lit≤ tt))
  applied_short Lt xs v e = omega (arith, two_short (codes "<") xs (lit≤ tt))
  applied_short Le xs v e = omega (arith, two_short (codes "<=") xs (lit≤ tt))
  applied_short Gt xs v e = omega (arith, two_short (codes ">") xs (lit≤ tt))
  applied_short Ge xs v e = omega (arith, two_short (codes ">=") xs (lit≤ tt))
  applied_short Shl xs v e = omega (arith, two_short (codes "<<") xs (lit≤ tt))
  applied_short Shr xs v e = omega (arith, two_short (codes ">>") xs (lit≤ tt))

  operation_short : (op : Op) (xs : List ℕ) (v : ℕ) → op_width op (signal_widths n xs) ≡ Some v → HasWord op → length (operation op (names_of n xs)) ≤ 606
  operation_short (Const w) xs v e h = omega (arith, literal_short w.width w.bits h.bounded h.fits)
  operation_short Copy xs v e h = omega (arith, plain_short xs)
  operation_short Mux xs v e h = selected_short xs
  operation_short (Apply p) xs v e h = applied_short p xs v e

  assignment_short : (target source : Text) → length target ≤ 200 → length (assignment target source) ≤ 214 + length source
  assignment_short target source t = simp length-append (omega arith)

  update_short : (name : Text) (w init m : ℕ) → length name ≤ 200 → w ≤ 128 → init < 2 ^ w → length (update name (literal w init) (name_at n m)) ≤ 694
  update_short name w init m h b f =
      let l = literal_short w init b f in
      let x = name_at_short m in
      longest (literal w init) (name_at n m) l x
    where
      longest : (t u : Text) → length t ≤ 44 → length u ≤ 200 → length (update name t u) ≤ 694
      longest t u l x = simp length-append (omega arith)

  -- ---- signals

  -- what a text has of a signal
  abbrev size : Text → ℕ → Kind → ℕ
  size name w k =
      length (if_input k (port name)) + length (if_input k (declaration (codes "input") w name)) + length (if_register k (declaration (codes "reg") w name))
      + length (if_wire k (declaration (codes "wire") w name)) + length (cell_assignment n name k) + length (next_update n name w k)

  kind_short : (name : Text) (w : ℕ) (k : Kind) → length name ≤ 200 → w ≤ 128 → KindFits n w k → size name w k ≤ 1200
  kind_short name w Input h b f = omega (arith, declaration_short (codes "input") w name (lit≤ tt) b h)
  kind_short name w (Reg init None) h b f = omega (arith, declaration_short (codes "reg") w name (lit≤ tt) b h)
  kind_short name w (Reg init (Some m)) h b f = omega (arith, declaration_short (codes "reg") w name (lit≤ tt) b h, update_short name w init m h b f.0)
  kind_short name w (Wire None) h b f = omega (arith, declaration_short (codes "wire") w name (lit≤ tt) b h)
  kind_short name w (Wire (Some c)) h b f =
      let source = operation_short c.op c.operands w f.gives f.word in
      omega (arith, declaration_short (codes "wire") w name (lit≤ tt) b h, assignment_short name (operation c.op (names_of n c.operands)) h, source)

  signal_short : (g : Signal) → SignalFits n g → size g.name g.width g.kind ≤ 1200
  signal_short g f = kind_short g.name g.width g.kind (name_short g.name f.good) f.most f.kind

  abbrev sizes : List Signal → ℕ
  sizes gs =
      length (flat_map input_port gs) + length (flat_map input_declaration gs) + length (flat_map register_declaration gs)
      + length (flat_map wire_declaration gs) + length (flat_map (wire_assignment n) gs) + length (flat_map (register_update n) gs)

  signals_short : (gs : List Signal) → ((s : ℕ) (g : Signal) → slice_get gs s ≡ Some g → SignalFits n g) → sizes gs ≤ 1200 * length gs
  signals_short [] h = omega arith
  signals_short (g ∷ gs) h =
      let one = signal_short g (h 0 g refl) in
      let more = signals_short gs (λ s. h (suc s)) in
      let a = length-append (input_port g) (flat_map input_port gs) in
      let b = length-append (input_declaration g) (flat_map input_declaration gs) in
      let c = length-append (register_declaration g) (flat_map register_declaration gs) in
      let d = length-append (wire_declaration g) (flat_map wire_declaration gs) in
      let e = length-append (wire_assignment n g) (flat_map (wire_assignment n) gs) in
      let f = length-append (register_update n g) (flat_map (register_update n) gs) in
      omega (arith, one, more, a, b, c, d, e, f)

  -- ---- outputs

  abbrev output_sizes : List (List ℕ × ℕ) → ℕ
  output_sizes os = length (flat_map output_port os) + length (flat_map (output_declaration n) os) + length (flat_map (output_assignment n) os)

  output_short : (o : List ℕ × ℕ) → is_good o.0 ≡ true → length (output_port o) + length (output_declaration n o) + length (output_assignment n o) ≤ 1200
  output_short o g =
      let name = name_short o.0 g in
      let source = name_at_short o.1 in
      let d = declaration_short (codes "output") (width_of n o.1) o.0 (lit≤ tt) (width_short o.1) name in
      let a = assignment_short o.0 (name_at n o.1) name in
      omega (arith, name, d, a, source)

  outputs_short : (os : List (List ℕ × ℕ)) → ((i : ℕ) (o : List ℕ × ℕ) → slice_get os i ≡ Some o → (is_good o.0 ≡ true) × (o.1 < length n.signals)) → output_sizes os ≤ 1200 * length os
  outputs_short [] h = omega arith
  outputs_short (o ∷ os) h =
      let one = output_short o (h 0 o refl).0 in
      let more = outputs_short os (λ i. h (suc i)) in
      let a = length-append (output_port o) (flat_map output_port os) in
      let b = length-append (output_declaration n o) (flat_map (output_declaration n) os) in
      let c = length-append (output_assignment n o) (flat_map (output_assignment n) os) in
      omega (arith, one, more, a, b, c)

  -- a text is short enough
  pub written_short : length (written n) ≤ text_max n
  unfolding written
  written_short =
      let s = signals_short n.signals net.signals in
      let o = outputs_short n.outputs net.outputs in
      simp length-append (omega (arith, s, o))
