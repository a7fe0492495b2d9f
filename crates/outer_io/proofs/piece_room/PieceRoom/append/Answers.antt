use Rattle.std.proofs.Common.{rules, ◌≡◌, ◌≤◌, ◌-◌, ◌∙◌, ◌++◌, List, ℕ, length, sym, ap, arith}
use Rattle.std.proofs.lemmas.List.{take_all}
use Rattle.outer_io.proofs.piece_room.PieceRoom.append.Goals as goal

pub returns : goal.returns
returns c =
    let held = c.self.inside.held.bytes in
    let piece = c.args.piece.now in
    let same : c.args.self.now ≡ held = search rules in
    let limit : c.self.inside.held.limit ≡ 65536 = search rules in
    let fits : length piece ≤ c.self.inside.held.limit - length held = omega (arith, c.requires, limit, ap length same) in
    c.append.ensures.bytes ∙ ap (λ (t : List ℕ). held ++ t) (take_all _ piece fits) ∙ ap (λ (t : List ℕ). t ++ piece) (sym same)
