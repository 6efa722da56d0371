use Rattle.safl_aig.proofs.Common.{IfOk-weaker, Lit, Sig, cell_on}
use Rattle.std.proofs.Common.{◌≡◌, ℕ, ◌≤◌, List, [], ◌∷◌, length, refl, sym, subst, ◌∙◌, arith}
use Rattle.safl_bits.specs.Gates.{AreLiterals}
use Rattle.safl_aig.specs.Tables.{AreReady, CellMade, RoomFor, GrowsFor, OpMade, MayDo, GrowsBy}
use Rattle.safl_aig.proofs.Cells.{shape_1, shape_2, shape_3, sig, may_do, grows_for, made_for, operand_known, ready_narrow}
use Rattle.safl_aig.proofs.wires.cell_bits.Goals as goal

pub one_made-requires-clause-taken : goal.one_made-requires-clause-taken
one_made-requires-clause-taken c =
    let n = c.args.net.now in
    let g = c.args.g.now in
    let table = c.args.table.now in
    let op = c.args.cell.now.op in
    let xs = c.as_slice.result.now in
    let ys : List Sig = sig xs 0 ∷ [] in
    let q : c.args.cell.now.operands.items ≡ ys = sym c.as_slice.ensures.value ∙ shape_1 xs c.in-len1.len_at_least c.in-len1.len_below in
    let ready : AreReady n g table (cell_on op ys) = subst (λ (l : List Sig). AreReady n g table (cell_on op l)) q c.requires.ready in
    let room : RoomFor n g (cell_on op ys) = subst (λ (l : List Sig). RoomFor n g (cell_on op l)) q c.requires.room in
    let d = subst (λ (ws : List ℕ). MayDo op g ws) (λ i. length (sym c.literals.ensures i) ∷ []) (may_do n g table op ys ready room) in
    (d.0, d.1)

pub one_made-requires-clause-word : goal.one_made-requires-clause-word
one_made-requires-clause-word c =
    let n = c.args.net.now in
    let g = c.args.g.now in
    let table = c.args.table.now in
    let op = c.args.cell.now.op in
    let xs = c.as_slice.result.now in
    let ys : List Sig = sig xs 0 ∷ [] in
    let q : c.args.cell.now.operands.items ≡ ys = sym c.as_slice.ensures.value ∙ shape_1 xs c.in-len1.len_at_least c.in-len1.len_below in
    let ready : AreReady n g table (cell_on op ys) = subst (λ (l : List Sig). AreReady n g table (cell_on op l)) q c.requires.ready in
    let room : RoomFor n g (cell_on op ys) = subst (λ (l : List Sig). RoomFor n g (cell_on op l)) q c.requires.room in
    subst (λ (l : List Lit). AreLiterals g l) (sym c.literals.ensures) (ready 0 (sig xs 0).0 refl).fits

pub returns-in-len1-clause-made : goal.returns-in-len1-clause-made
returns-in-len1-clause-made c =
    let n = c.args.net.now in
    let g = c.args.g.now in
    let table = c.args.table.now in
    let op = c.args.cell.now.op in
    let xs = c.as_slice.result.now in
    let ys : List Sig = sig xs 0 ∷ [] in
    let q : c.args.cell.now.operands.items ≡ ys = sym c.as_slice.ensures.value ∙ shape_1 xs c.in-len1.len_at_least c.in-len1.len_below in
    let ready : AreReady n g table (cell_on op ys) = subst (λ (l : List Sig). AreReady n g table (cell_on op l)) q c.requires.ready in
    let room : RoomFor n g (cell_on op ys) = subst (λ (l : List Sig). RoomFor n g (cell_on op l)) q c.requires.room in
    IfOk-weaker c.one_made.result _ _ (λ r h.
    let o = subst (λ (gs : List (List Lit)). OpMade op gs (g) r.items) (λ i. c.literals.ensures i ∷ []) h in
    subst (λ (l : List Sig). CellMade n (g) table (cell_on op l) r.items) (sym q) (made_for n g table op ys ready (g) r.items o)) c.one_made.ensures.made

pub two_made-requires-clause-room : goal.two_made-requires-clause-room
two_made-requires-clause-room c =
    let n = c.args.net.now in
    let g = c.args.g.now in
    let table = c.args.table.now in
    let op = c.args.cell.now.op in
    let xs = c.as_slice.result.now in
    let ys : List Sig = sig xs 0 ∷ sig xs 1 ∷ [] in
    let q : c.args.cell.now.operands.items ≡ ys = sym c.as_slice.ensures.value ∙ shape_2 xs c.in-len2.len_at_least c.in-len2.len_below in
    let ready : AreReady n g table (cell_on op ys) = subst (λ (l : List Sig). AreReady n g table (cell_on op l)) q c.requires.ready in
    let room : RoomFor n g (cell_on op ys) = subst (λ (l : List Sig). RoomFor n g (cell_on op l)) q c.requires.room in
    let d = subst (λ (ws : List ℕ). MayDo op g ws) (λ i. length (sym c.literals-in-len2.ensures i) ∷ length (sym c.literals-in-len2-2.ensures i) ∷ []) (may_do n g table op ys ready room) in
    d

pub two_made-requires-clause-first : goal.two_made-requires-clause-first
two_made-requires-clause-first c =
    let n = c.args.net.now in
    let g = c.args.g.now in
    let table = c.args.table.now in
    let op = c.args.cell.now.op in
    let xs = c.as_slice.result.now in
    let ys : List Sig = sig xs 0 ∷ sig xs 1 ∷ [] in
    let q : c.args.cell.now.operands.items ≡ ys = sym c.as_slice.ensures.value ∙ shape_2 xs c.in-len2.len_at_least c.in-len2.len_below in
    let ready : AreReady n g table (cell_on op ys) = subst (λ (l : List Sig). AreReady n g table (cell_on op l)) q c.requires.ready in
    let room : RoomFor n g (cell_on op ys) = subst (λ (l : List Sig). RoomFor n g (cell_on op l)) q c.requires.room in
    subst (λ (l : List Lit). AreLiterals g l) (sym c.literals-in-len2.ensures) (ready 0 (sig xs 0).0 refl).fits

pub two_made-requires-clause-second : goal.two_made-requires-clause-second
two_made-requires-clause-second c =
    let n = c.args.net.now in
    let g = c.args.g.now in
    let table = c.args.table.now in
    let op = c.args.cell.now.op in
    let xs = c.as_slice.result.now in
    let ys : List Sig = sig xs 0 ∷ sig xs 1 ∷ [] in
    let q : c.args.cell.now.operands.items ≡ ys = sym c.as_slice.ensures.value ∙ shape_2 xs c.in-len2.len_at_least c.in-len2.len_below in
    let ready : AreReady n g table (cell_on op ys) = subst (λ (l : List Sig). AreReady n g table (cell_on op l)) q c.requires.ready in
    let room : RoomFor n g (cell_on op ys) = subst (λ (l : List Sig). RoomFor n g (cell_on op l)) q c.requires.room in
    subst (λ (l : List Lit). AreLiterals g l) (sym c.literals-in-len2-2.ensures) (ready 1 (sig xs 1).0 refl).fits

pub returns-in-len2-clause-made : goal.returns-in-len2-clause-made
returns-in-len2-clause-made c =
    let n = c.args.net.now in
    let g = c.args.g.now in
    let table = c.args.table.now in
    let op = c.args.cell.now.op in
    let xs = c.as_slice.result.now in
    let ys : List Sig = sig xs 0 ∷ sig xs 1 ∷ [] in
    let q : c.args.cell.now.operands.items ≡ ys = sym c.as_slice.ensures.value ∙ shape_2 xs c.in-len2.len_at_least c.in-len2.len_below in
    let ready : AreReady n g table (cell_on op ys) = subst (λ (l : List Sig). AreReady n g table (cell_on op l)) q c.requires.ready in
    let room : RoomFor n g (cell_on op ys) = subst (λ (l : List Sig). RoomFor n g (cell_on op l)) q c.requires.room in
    IfOk-weaker c.two_made.result _ _ (λ r h.
    let o = subst (λ (gs : List (List Lit)). OpMade op gs (c.two_made.new.g) r.items) (λ i. c.literals-in-len2.ensures i ∷ c.literals-in-len2-2.ensures i ∷ []) h in
    subst (λ (l : List Sig). CellMade n (c.two_made.new.g) table (cell_on op l) r.items) (sym q) (made_for n g table op ys ready (c.two_made.new.g) r.items o)) c.two_made.ensures.made

pub returns-in-len2-clause-built : goal.returns-in-len2-clause-built
returns-in-len2-clause-built c =
    let n = c.args.net.now in
    let g = c.args.g.now in
    let table = c.args.table.now in
    let op = c.args.cell.now.op in
    let xs = c.as_slice.result.now in
    let ys : List Sig = sig xs 0 ∷ sig xs 1 ∷ [] in
    let q : c.args.cell.now.operands.items ≡ ys = sym c.as_slice.ensures.value ∙ shape_2 xs c.in-len2.len_at_least c.in-len2.len_below in
    let ready : AreReady n g table (cell_on op ys) = subst (λ (l : List Sig). AreReady n g table (cell_on op l)) q c.requires.ready in
    let room : RoomFor n g (cell_on op ys) = subst (λ (l : List Sig). RoomFor n g (cell_on op l)) q c.requires.room in
    let b = subst (λ (ws : List ℕ). GrowsBy op g (c.two_made.new.g) ws) (λ i. length (c.literals-in-len2.ensures i) ∷ length (c.literals-in-len2-2.ensures i) ∷ []) c.two_made.ensures.built in
    subst (λ (l : List Sig). GrowsFor n g (c.two_made.new.g) (cell_on op l)) (sym q) (grows_for n g table op ys ready (c.two_made.new.g) b)

pub three_made-requires-clause-room : goal.three_made-requires-clause-room
three_made-requires-clause-room c =
    let n = c.args.net.now in
    let g = c.args.g.now in
    let table = c.args.table.now in
    let op = c.args.cell.now.op in
    let xs = c.as_slice.result.now in
    let ys : List Sig = sig xs 0 ∷ sig xs 1 ∷ sig xs 2 ∷ [] in
    let q : c.args.cell.now.operands.items ≡ ys = sym c.as_slice.ensures.value ∙ shape_3 xs c.in-len3.len_at_least c.in-len3.len_below in
    let ready : AreReady n g table (cell_on op ys) = subst (λ (l : List Sig). AreReady n g table (cell_on op l)) q c.requires.ready in
    let room : RoomFor n g (cell_on op ys) = subst (λ (l : List Sig). RoomFor n g (cell_on op l)) q c.requires.room in
    let d = subst (λ (ws : List ℕ). MayDo op g ws) (λ i. length (sym c.literals-test.ensures i) ∷ length (sym c.literals-in-len3.ensures i) ∷ length
    (sym c.literals-in-len3-2.ensures i) ∷ []) (may_do n g table op ys ready room) in
    d

pub three_made-requires-clause-test : goal.three_made-requires-clause-test
three_made-requires-clause-test c =
    let n = c.args.net.now in
    let g = c.args.g.now in
    let table = c.args.table.now in
    let op = c.args.cell.now.op in
    let xs = c.as_slice.result.now in
    let ys : List Sig = sig xs 0 ∷ sig xs 1 ∷ sig xs 2 ∷ [] in
    let q : c.args.cell.now.operands.items ≡ ys = sym c.as_slice.ensures.value ∙ shape_3 xs c.in-len3.len_at_least c.in-len3.len_below in
    let ready : AreReady n g table (cell_on op ys) = subst (λ (l : List Sig). AreReady n g table (cell_on op l)) q c.requires.ready in
    let room : RoomFor n g (cell_on op ys) = subst (λ (l : List Sig). RoomFor n g (cell_on op l)) q c.requires.room in
    subst (λ (l : List Lit). AreLiterals g l) (sym c.literals-test.ensures) (ready 0 (sig xs 0).0 refl).fits

pub three_made-requires-clause-first : goal.three_made-requires-clause-first
three_made-requires-clause-first c =
    let n = c.args.net.now in
    let g = c.args.g.now in
    let table = c.args.table.now in
    let op = c.args.cell.now.op in
    let xs = c.as_slice.result.now in
    let ys : List Sig = sig xs 0 ∷ sig xs 1 ∷ sig xs 2 ∷ [] in
    let q : c.args.cell.now.operands.items ≡ ys = sym c.as_slice.ensures.value ∙ shape_3 xs c.in-len3.len_at_least c.in-len3.len_below in
    let ready : AreReady n g table (cell_on op ys) = subst (λ (l : List Sig). AreReady n g table (cell_on op l)) q c.requires.ready in
    let room : RoomFor n g (cell_on op ys) = subst (λ (l : List Sig). RoomFor n g (cell_on op l)) q c.requires.room in
    subst (λ (l : List Lit). AreLiterals g l) (sym c.literals-in-len3.ensures) (ready 1 (sig xs 1).0 refl).fits

pub three_made-requires-clause-second : goal.three_made-requires-clause-second
three_made-requires-clause-second c =
    let n = c.args.net.now in
    let g = c.args.g.now in
    let table = c.args.table.now in
    let op = c.args.cell.now.op in
    let xs = c.as_slice.result.now in
    let ys : List Sig = sig xs 0 ∷ sig xs 1 ∷ sig xs 2 ∷ [] in
    let q : c.args.cell.now.operands.items ≡ ys = sym c.as_slice.ensures.value ∙ shape_3 xs c.in-len3.len_at_least c.in-len3.len_below in
    let ready : AreReady n g table (cell_on op ys) = subst (λ (l : List Sig). AreReady n g table (cell_on op l)) q c.requires.ready in
    let room : RoomFor n g (cell_on op ys) = subst (λ (l : List Sig). RoomFor n g (cell_on op l)) q c.requires.room in
    subst (λ (l : List Lit). AreLiterals g l) (sym c.literals-in-len3-2.ensures) (ready 2 (sig xs 2).0 refl).fits

pub returns-in-len3-clause-made : goal.returns-in-len3-clause-made
returns-in-len3-clause-made c =
    let n = c.args.net.now in
    let g = c.args.g.now in
    let table = c.args.table.now in
    let op = c.args.cell.now.op in
    let xs = c.as_slice.result.now in
    let ys : List Sig = sig xs 0 ∷ sig xs 1 ∷ sig xs 2 ∷ [] in
    let q : c.args.cell.now.operands.items ≡ ys = sym c.as_slice.ensures.value ∙ shape_3 xs c.in-len3.len_at_least c.in-len3.len_below in
    let ready : AreReady n g table (cell_on op ys) = subst (λ (l : List Sig). AreReady n g table (cell_on op l)) q c.requires.ready in
    let room : RoomFor n g (cell_on op ys) = subst (λ (l : List Sig). RoomFor n g (cell_on op l)) q c.requires.room in
    IfOk-weaker c.three_made.result _ _ (λ r h.
    let o = subst (λ (gs : List (List Lit)). OpMade op gs (c.three_made.new.g) r.items) (λ i. c.literals-test.ensures i ∷ c.literals-in-len3.ensures i ∷ c.literals-in-len3-2.ensures i ∷ []) h in
    subst (λ (l : List Sig). CellMade n (c.three_made.new.g) table (cell_on op l) r.items) (sym q) (made_for n g table op ys ready (c.three_made.new.g) r.items o)) c.three_made.ensures.made

pub returns-in-len3-clause-built : goal.returns-in-len3-clause-built
returns-in-len3-clause-built c =
    let n = c.args.net.now in
    let g = c.args.g.now in
    let table = c.args.table.now in
    let op = c.args.cell.now.op in
    let xs = c.as_slice.result.now in
    let ys : List Sig = sig xs 0 ∷ sig xs 1 ∷ sig xs 2 ∷ [] in
    let q : c.args.cell.now.operands.items ≡ ys = sym c.as_slice.ensures.value ∙ shape_3 xs c.in-len3.len_at_least c.in-len3.len_below in
    let ready : AreReady n g table (cell_on op ys) = subst (λ (l : List Sig). AreReady n g table (cell_on op l)) q c.requires.ready in
    let room : RoomFor n g (cell_on op ys) = subst (λ (l : List Sig). RoomFor n g (cell_on op l)) q c.requires.room in
    let b = subst (λ (ws : List ℕ). GrowsBy op g (c.three_made.new.g) ws)
    (λ i. length (c.literals-test.ensures i) ∷ length (c.literals-in-len3.ensures i) ∷ length (c.literals-in-len3-2.ensures i) ∷ []) c.three_made.ensures.built in
    subst (λ (l : List Sig). GrowsFor n g (c.three_made.new.g) (cell_on op l)) (sym q) (grows_for n g table op ys ready (c.three_made.new.g) b)

pub two_made-requires-clause-narrow : goal.two_made-requires-clause-narrow
two_made-requires-clause-narrow c =
    let n = c.args.net.now in
    let g = c.args.g.now in
    let table = c.args.table.now in
    let op = c.args.cell.now.op in
    let xs = c.as_slice.result.now in
    let ys : List Sig = sig xs 0 ∷ sig xs 1 ∷ [] in
    let q : c.args.cell.now.operands.items ≡ ys = sym c.as_slice.ensures.value ∙ shape_2 xs c.in-len2.len_at_least c.in-len2.len_below in
    let ready : AreReady n g table (cell_on op ys) = subst (λ (l : List Sig). AreReady n g table (cell_on op l)) q c.requires.ready in
    let room : RoomFor n g (cell_on op ys) = subst (λ (l : List Sig). RoomFor n g (cell_on op l)) q c.requires.room in
    subst (λ (l : List Lit). length l ≤ 128) (sym c.literals-in-len2.ensures) (ready_narrow n g table (sig xs 0).0 c.requires.netlist (ready 0 (sig xs 0).0 refl))

pub literals-requires-in-len2 : goal.literals-requires-in-len2
literals-requires-in-len2 c =
    let n = c.args.net.now in
    let g = c.args.g.now in
    let table = c.args.table.now in
    let op = c.args.cell.now.op in
    let xs = c.as_slice.result.now in
    let ys : List Sig = sig xs 0 ∷ sig xs 1 ∷ [] in
    let q : c.args.cell.now.operands.items ≡ ys = sym c.as_slice.ensures.value ∙ shape_2 xs c.in-len2.len_at_least c.in-len2.len_below in
    let ready : AreReady n g table (cell_on op ys) = subst (λ (l : List Sig). AreReady n g table (cell_on op l)) q c.requires.ready in
    let room : RoomFor n g (cell_on op ys) = subst (λ (l : List Sig). RoomFor n g (cell_on op l)) q c.requires.room in
    let k = operand_known n room.0 op ys 0 (sig xs 0).0 room.1 refl in
    omega (arith, k, c.requires.long)

pub literals-requires-in-len2-2 : goal.literals-requires-in-len2-2
literals-requires-in-len2-2 c =
    let n = c.args.net.now in
    let g = c.args.g.now in
    let table = c.args.table.now in
    let op = c.args.cell.now.op in
    let xs = c.as_slice.result.now in
    let ys : List Sig = sig xs 0 ∷ sig xs 1 ∷ [] in
    let q : c.args.cell.now.operands.items ≡ ys = sym c.as_slice.ensures.value ∙ shape_2 xs c.in-len2.len_at_least c.in-len2.len_below in
    let ready : AreReady n g table (cell_on op ys) = subst (λ (l : List Sig). AreReady n g table (cell_on op l)) q c.requires.ready in
    let room : RoomFor n g (cell_on op ys) = subst (λ (l : List Sig). RoomFor n g (cell_on op l)) q c.requires.room in
    let k = operand_known n room.0 op ys 1 (sig xs 1).0 room.1 refl in
    omega (arith, k, c.requires.long)

pub literals-test-requires : goal.literals-test-requires
literals-test-requires c =
    let n = c.args.net.now in
    let g = c.args.g.now in
    let table = c.args.table.now in
    let op = c.args.cell.now.op in
    let xs = c.as_slice.result.now in
    let ys : List Sig = sig xs 0 ∷ sig xs 1 ∷ sig xs 2 ∷ [] in
    let q : c.args.cell.now.operands.items ≡ ys = sym c.as_slice.ensures.value ∙ shape_3 xs c.in-len3.len_at_least c.in-len3.len_below in
    let ready : AreReady n g table (cell_on op ys) = subst (λ (l : List Sig). AreReady n g table (cell_on op l)) q c.requires.ready in
    let room : RoomFor n g (cell_on op ys) = subst (λ (l : List Sig). RoomFor n g (cell_on op l)) q c.requires.room in
    let k = operand_known n room.0 op ys 0 (sig xs 0).0 room.1 refl in
    omega (arith, k, c.requires.long)

pub literals-requires-in-len3-2 : goal.literals-requires-in-len3-2
literals-requires-in-len3-2 c =
    let n = c.args.net.now in
    let g = c.args.g.now in
    let table = c.args.table.now in
    let op = c.args.cell.now.op in
    let xs = c.as_slice.result.now in
    let ys : List Sig = sig xs 0 ∷ sig xs 1 ∷ sig xs 2 ∷ [] in
    let q : c.args.cell.now.operands.items ≡ ys = sym c.as_slice.ensures.value ∙ shape_3 xs c.in-len3.len_at_least c.in-len3.len_below in
    let ready : AreReady n g table (cell_on op ys) = subst (λ (l : List Sig). AreReady n g table (cell_on op l)) q c.requires.ready in
    let room : RoomFor n g (cell_on op ys) = subst (λ (l : List Sig). RoomFor n g (cell_on op l)) q c.requires.room in
    let k = operand_known n room.0 op ys 2 (sig xs 2).0 room.1 refl in
    omega (arith, k, c.requires.long)

pub literals-requires-in-len3 : goal.literals-requires-in-len3
literals-requires-in-len3 c =
    let n = c.args.net.now in
    let g = c.args.g.now in
    let table = c.args.table.now in
    let op = c.args.cell.now.op in
    let xs = c.as_slice.result.now in
    let ys : List Sig = sig xs 0 ∷ sig xs 1 ∷ sig xs 2 ∷ [] in
    let q : c.args.cell.now.operands.items ≡ ys = sym c.as_slice.ensures.value ∙ shape_3 xs c.in-len3.len_at_least c.in-len3.len_below in
    let ready : AreReady n g table (cell_on op ys) = subst (λ (l : List Sig). AreReady n g table (cell_on op l)) q c.requires.ready in
    let room : RoomFor n g (cell_on op ys) = subst (λ (l : List Sig). RoomFor n g (cell_on op l)) q c.requires.room in
    let k = operand_known n room.0 op ys 1 (sig xs 1).0 room.1 refl in
    omega (arith, k, c.requires.long)
