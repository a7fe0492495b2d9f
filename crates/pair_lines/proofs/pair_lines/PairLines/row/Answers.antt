use Rattle.std.proofs.Common.{◌<◌, Bool, true, false, refl, sym, subst, ◌∙◌, Ok}
use Rattle.std.proofs.lemmas.Result.{err_from_is_err_and}
use Rattle.graph_theory.specs.Graph.{size}
use Rattle.graph_theory.specs.Embedding.{Problem}
use Rattle.log_theory.specs.declared.step.Ref.{Ref}
use Rattle.log_theory.specs.declared.step.Ref.TheVariants.{Made}
use Rattle.log_theory.specs.LogText.{IsRef}
use Rattle.pair_line_theory.specs.Laws.{IsPlace}
use Rattle.pair_lines.specs.Choices.{IsWithin}
use Rattle.log_growth.specs.Frames.{Goes}
use Rattle.log_growth.proofs.Going.{goes_stay}
use Rattle.pair_lines.specs.Claims.{HasEncoding, Knows, IsKnownRow}
use Rattle.pair_lines.proofs.Good.{good_served}
use Rattle.pair_lines.proofs.Turning.{frame_of}
use Rattle.pair_lines.proofs.Following.{edge_found, edge_there, edge_kept, edge_refused, row_refused, row_added, row_there_of}
use Rattle.pair_lines.proofs.Failing.{if_ok_failed}
use Rattle.journals.proofs.Rests.{rest_same}
use Rattle.pair_lines.proofs.pair_lines.PairLines.row.Goals as goal

-- ---- by edges alone

pub returns-in-Some-clause-goes : goal.returns-in-Some-clause-goes
returns-in-Some-clause-goes g c = λ w frame.
    subst (λ (b : Bool). Goes w (g.K.Keeper.kept c.args.keeper.now) (g.K.Keeper.kept c.args.keeper.now) (Knows w c.args.q.now c.args.self.now) (IsKnownRow b w c.args.q.now c.args.pair.p c.args.pair.t c.args.pair.r c.args.self.now (Ok (Made c.in-Some.name)))) (sym c.if-by_edges.true)
    (goes_stay w (g.K.Keeper.kept c.args.keeper.now) (g.K.Keeper.kept c.args.keeper.now) (Knows w c.args.q.now c.args.self.now) (IsKnownRow true w c.args.q.now c.args.pair.p c.args.pair.t c.args.pair.r c.args.self.now (Ok (Made c.in-Some.name))) refl
    (λ forms k. edge_found w c.args.q.now c.args.self.now c.args.pair.p c.args.pair.t c.args.pair.r c.in-Some.name forms c.requires.placed (sym c.in-Some.ensures.name) k))

pub returns-in-None-clause-goes : goal.returns-in-None-clause-goes
returns-in-None-clause-goes g c = λ w frame.
    subst (λ (b : Bool). Goes w (g.K.Keeper.kept c.args.keeper.now) (g.K.Keeper.kept c.args.keeper.now) (Knows w c.args.q.now c.args.self.now) (IsKnownRow b w c.args.q.now c.args.pair.p c.args.pair.t c.args.pair.r c.args.self.now (Ok c.alone.result))) (sym c.if-by_edges.true)
    (goes_stay w (g.K.Keeper.kept c.args.keeper.now) (g.K.Keeper.kept c.args.keeper.now) (Knows w c.args.q.now c.args.self.now) (IsKnownRow true w c.args.q.now c.args.pair.p c.args.pair.t c.args.pair.r c.args.self.now (Ok c.alone.result)) refl
    (λ forms k. (
      k,
      edge_there c.args.q.now c.new-known.result c.new-known.ensures c.in_limits.ensures (g.K.Keeper.owner c.args.keeper.now) w c.args.pair.p c.args.pair.t c.args.pair.r c.meeting_of-meeting.result c.alone.result forms frame c.requires.placed
          c.meeting_of-meeting.ensures (sym c.own_line.ensures ∙ c.in-None.is) c.alone.ensures,
    )))

pub returns-in-None-clause-fits : goal.returns-in-None-clause-fits
returns-in-None-clause-fits g c =
    subst (λ (x : Ref). IsRef x) (sym c.alone.ensures) (good_served c.new-known.result c.in_limits.ensures c.meeting_of-meeting.result c.args.pair.p c.args.pair.t c.args.pair.r c.meeting_of-meeting.ensures
    (subst (λ (x : Problem). c.args.pair.t < size x.target) (sym c.new-known.ensures) c.requires.placed.place) (subst (λ (x : Problem). c.args.pair.r < size x.pattern) (sym c.new-known.ensures) c.requires.placed.second))

pub returns-in_err-name-clause-goes : goal.returns-in_err-name-clause-goes
returns-in_err-name-clause-goes g c = λ w frame.
    rw (err_from_is_err_and c.from_residual.result c.from_residual.ensures.1).1
    (edge_refused w c.args.q.now c.new-known.result c.args.pair.p c.args.pair.t c.args.pair.r c.meeting_of-meeting.result (g.K.Keeper.kept c.args.keeper.now) (g.K.Keeper.kept c.keep_edge_row.new.keeper) c.args.self.now (record { rows = c.args.self.now.rows; edge_rows = c.args.self.now.edge_rows; spreads = c.args.self.now.spreads })
    c.keep_edge_row.result refl refl refl (c.keep_edge_row.ensures.goes w (subst (λ (x : Problem). HasEncoding x (g.K.Keeper.owner c.args.keeper.now) w) (sym c.new-known.ensures) (frame_of c.args.q.now (g.K.Keeper.owner c.args.keeper.now) w frame))))

pub returns-in_err-add-clause-goes : goal.returns-in_err-add-clause-goes
returns-in_err-add-clause-goes g c = λ w frame.
    rw (err_from_is_err_and c.from_residual-in_err-add.result c.from_residual-in_err-add.ensures.1).1
    (edge_refused w c.args.q.now c.new-known.result c.args.pair.p c.args.pair.t c.args.pair.r c.meeting_of-meeting.result (g.K.Keeper.kept c.args.keeper.now) (g.K.Keeper.kept c.keep_edge_row.new.keeper) c.args.self.now (record { rows = c.args.self.now.rows; edge_rows = c.add.new.self; spreads = c.args.self.now.spreads })
    c.keep_edge_row.result refl refl c.in_err-add.ensures.refused (c.keep_edge_row.ensures.goes w (subst (λ (x : Problem). HasEncoding x (g.K.Keeper.owner c.args.keeper.now) w) (sym c.new-known.ensures) (frame_of c.args.q.now (g.K.Keeper.owner c.args.keeper.now) w frame))))

pub returns-then-by_edges-clause-goes : goal.returns-then-by_edges-clause-goes
returns-then-by_edges-clause-goes g c = λ w frame.
    subst (λ (b : Bool). Goes w (g.K.Keeper.kept c.args.keeper.now) (g.K.Keeper.kept c.keep_edge_row.new.keeper) (Knows w c.args.q.now c.args.self.now) (IsKnownRow b w c.args.q.now c.args.pair.p c.args.pair.t c.args.pair.r (record { rows = c.args.self.now.rows; edge_rows = c.add.new.self; spreads = c.args.self.now.spreads }) (Ok (Made c.in_ok-name.name)))) (sym c.if-by_edges.true)
    (edge_kept w c.args.q.now c.new-known.result c.new-known.ensures c.in_limits.ensures c.args.pair.p c.args.pair.t c.args.pair.r c.meeting_of-meeting.result c.meeting_of-meeting.ensures (g.K.Keeper.kept c.args.keeper.now) (g.K.Keeper.kept c.keep_edge_row.new.keeper) c.args.self.now (record { rows = c.args.self.now.rows; edge_rows = c.add.new.self; spreads = c.args.self.now.spreads }) c.in_ok-name.name c.requires.placed
    refl refl c.in_ok-add.ensures.added (c.in_ok-name.ensures.goes w (subst (λ (x : Problem). HasEncoding x (g.K.Keeper.owner c.args.keeper.now) w) (sym c.new-known.ensures) (frame_of c.args.q.now (g.K.Keeper.owner c.args.keeper.now) w frame))))

-- ---- by all that is to be consistent

pub returns-in-Some-find-clause-goes : goal.returns-in-Some-find-clause-goes
returns-in-Some-find-clause-goes g c = λ w frame.
    subst (λ (b : Bool). Goes w (g.K.Keeper.kept c.args.keeper.now) (g.K.Keeper.kept c.args.keeper.now) (Knows w c.args.q.now c.args.self.now) (IsKnownRow b w c.args.q.now c.args.pair.p c.args.pair.t c.args.pair.r c.args.self.now (Ok (Made c.in-Some-find.name)))) (sym c.if-by_edges.false)
    (goes_stay w (g.K.Keeper.kept c.args.keeper.now) (g.K.Keeper.kept c.args.keeper.now) (Knows w c.args.q.now c.args.self.now) (IsKnownRow false w c.args.q.now c.args.pair.p c.args.pair.t c.args.pair.r c.args.self.now (Ok (Made c.in-Some-find.name))) refl
    (λ forms k. (k, k.1.named c.args.pair.p c.args.pair.t c.args.pair.r c.in-Some-find.name c.requires.placed.first c.requires.placed.place c.requires.placed.second (sym c.in-Some-find.ensures.name))))

pub returns-in_err-asked-clause-goes : goal.returns-in_err-asked-clause-goes
returns-in_err-asked-clause-goes g c = λ w frame.
    rw (err_from_is_err_and c.from_residual-in_err-asked.result c.from_residual-in_err-asked.ensures.1).1
    (goes_stay w (g.K.Keeper.kept c.args.keeper.now) (g.K.Keeper.kept c.args.keeper.now) (Knows w c.args.q.now c.args.self.now) (Knows w c.args.q.now c.args.self.now) refl (λ forms k. k))

pub returns-in-Some-line_there-clause-goes : goal.returns-in-Some-line_there-clause-goes
returns-in-Some-line_there-clause-goes g c = λ w frame.
    subst (λ (b : Bool). Goes w (g.K.Keeper.kept c.args.keeper.now) (g.K.Keeper.kept c.args.keeper.now) (Knows w c.args.q.now c.args.self.now) (IsKnownRow b w c.args.q.now c.args.pair.p c.args.pair.t c.args.pair.r c.args.self.now (Ok c.in-Some-line_there.line))) (sym c.if-by_edges.false)
    (goes_stay w (g.K.Keeper.kept c.args.keeper.now) (g.K.Keeper.kept c.args.keeper.now) (Knows w c.args.q.now c.args.self.now) (IsKnownRow false w c.args.q.now c.args.pair.p c.args.pair.t c.args.pair.r c.args.self.now (Ok c.in-Some-line_there.line)) refl
    (λ forms k. (
      k,
      row_there_of c.args.q.now c.new-known.result c.new-known.ensures c.in_limits.ensures (g.K.Keeper.owner c.args.keeper.now) w c.args.pair.p c.args.pair.t c.args.pair.r c.in-Some-line_there.line forms frame
          c.requires.placed c.in-Some-line_there.ensures.there,
    )))

pub returns-in_err-name-2-clause-goes : goal.returns-in_err-name-2-clause-goes
returns-in_err-name-2-clause-goes g c = λ w frame.
    rw (err_from_is_err_and c.from_residual-in_err-name-2.result c.from_residual-in_err-name-2.ensures.1).1
    (row_refused w c.args.q.now c.args.pair.p c.args.pair.t c.args.pair.r (g.K.Keeper.kept c.args.keeper.now) (g.K.Keeper.kept c.row_line_with.new.keeper) c.args.self.now (record { rows = c.args.self.now.rows; edge_rows = c.args.self.now.edge_rows; spreads = c.row_line_with.new.spreads })
    c.row_line_with.result refl refl (c.row_line_with.ensures.goes w frame))

pub returns-in_err-add-2-clause-goes : goal.returns-in_err-add-2-clause-goes
returns-in_err-add-2-clause-goes g c = λ w frame.
    rw (err_from_is_err_and c.from_residual-in_err-add-2.result c.from_residual-in_err-add-2.ensures.1).1
    (row_refused w c.args.q.now c.args.pair.p c.args.pair.t c.args.pair.r (g.K.Keeper.kept c.args.keeper.now) (g.K.Keeper.kept c.row_line_with.new.keeper) c.args.self.now (record { rows = c.add-2.new.self; edge_rows = c.args.self.now.edge_rows; spreads = c.row_line_with.new.spreads })
    c.row_line_with.result c.in_err-add-2.ensures.refused refl (c.row_line_with.ensures.goes w frame))

pub returns-clause-goes : goal.returns-clause-goes
returns-clause-goes g c = λ w frame.
    subst (λ (b : Bool). Goes w (g.K.Keeper.kept c.args.keeper.now) (g.K.Keeper.kept c.row_line_with.new.keeper) (Knows w c.args.q.now c.args.self.now) (IsKnownRow b w c.args.q.now c.args.pair.p c.args.pair.t c.args.pair.r (record { rows = c.add-2.new.self; edge_rows = c.args.self.now.edge_rows; spreads = c.row_line_with.new.spreads }) (Ok (Made c.in_ok-name-2.name)))) (sym c.if-by_edges.false)
    (row_added w c.args.q.now (subst (λ (x : Problem). IsWithin x) c.new-known.ensures c.in_limits.ensures) c.args.pair.p c.args.pair.t c.args.pair.r (g.K.Keeper.kept c.args.keeper.now) (g.K.Keeper.kept c.row_line_with.new.keeper) c.args.self.now
    (record { rows = c.add-2.new.self; edge_rows = c.args.self.now.edge_rows; spreads = c.row_line_with.new.spreads }) c.in_ok-name-2.name c.requires.placed.first c.requires.placed.place c.requires.placed.second c.in_ok-add-2.ensures.added refl (c.in_ok-name-2.ensures.goes w frame))

pub returns-in-Some-clause-rest : goal.returns-in-Some-clause-rest
returns-in-Some-clause-rest g c = rest_same

pub returns-in-Some-clause-fits : goal.returns-in-Some-clause-fits
returns-in-Some-clause-fits g c = c.in-Some.ensures.fits

pub returns-in-None-clause-rest : goal.returns-in-None-clause-rest
returns-in-None-clause-rest g c = rest_same

pub returns-in_err-name-clause-rest : goal.returns-in_err-name-clause-rest
returns-in_err-name-clause-rest g c = c.keep_edge_row.ensures.rest

pub returns-in_err-name-clause-fits : goal.returns-in_err-name-clause-fits
returns-in_err-name-clause-fits g c = if_ok_failed c.from_residual.result _ _ c.from_residual.ensures.1

pub returns-in_err-add-clause-rest : goal.returns-in_err-add-clause-rest
returns-in_err-add-clause-rest g c = c.keep_edge_row.ensures.rest

pub returns-in_err-add-clause-fits : goal.returns-in_err-add-clause-fits
returns-in_err-add-clause-fits g c = if_ok_failed c.from_residual-in_err-add.result _ _ c.from_residual-in_err-add.ensures.1

pub returns-then-by_edges-clause-rest : goal.returns-then-by_edges-clause-rest
returns-then-by_edges-clause-rest g c = c.keep_edge_row.ensures.rest

pub returns-then-by_edges-clause-fits : goal.returns-then-by_edges-clause-fits
returns-then-by_edges-clause-fits g c = c.in_ok-name.ensures.name

pub returns-in-Some-find-clause-rest : goal.returns-in-Some-find-clause-rest
returns-in-Some-find-clause-rest g c = rest_same

pub returns-in-Some-find-clause-fits : goal.returns-in-Some-find-clause-fits
returns-in-Some-find-clause-fits g c = c.in-Some-find.ensures.fits

pub returns-in_err-asked-clause-rest : goal.returns-in_err-asked-clause-rest
returns-in_err-asked-clause-rest g c = rest_same

pub returns-in_err-asked-clause-fits : goal.returns-in_err-asked-clause-fits
returns-in_err-asked-clause-fits g c = if_ok_failed c.from_residual-in_err-asked.result _ _ c.from_residual-in_err-asked.ensures.1

pub returns-in-Some-line_there-clause-rest : goal.returns-in-Some-line_there-clause-rest
returns-in-Some-line_there-clause-rest g c = rest_same

pub returns-in-Some-line_there-clause-fits : goal.returns-in-Some-line_there-clause-fits
returns-in-Some-line_there-clause-fits g c = c.in-Some-line_there.ensures.fits

pub returns-in_err-name-2-clause-rest : goal.returns-in_err-name-2-clause-rest
returns-in_err-name-2-clause-rest g c = c.row_line_with.ensures.rest

pub returns-in_err-name-2-clause-fits : goal.returns-in_err-name-2-clause-fits
returns-in_err-name-2-clause-fits g c = if_ok_failed c.from_residual-in_err-name-2.result _ _ c.from_residual-in_err-name-2.ensures.1

pub returns-in_err-add-2-clause-rest : goal.returns-in_err-add-2-clause-rest
returns-in_err-add-2-clause-rest g c = c.row_line_with.ensures.rest

pub returns-in_err-add-2-clause-fits : goal.returns-in_err-add-2-clause-fits
returns-in_err-add-2-clause-fits g c = if_ok_failed c.from_residual-in_err-add-2.result _ _ c.from_residual-in_err-add-2.ensures.1

pub returns-clause-rest : goal.returns-clause-rest
returns-clause-rest g c = c.row_line_with.ensures.rest

pub returns-clause-fits : goal.returns-clause-fits
returns-clause-fits g c = c.in_ok-name-2.ensures.name

pub own_line-requires-clause-p_in : goal.own_line-requires-clause-p_in
own_line-requires-clause-p_in g c = subst (λ (x : Problem). c.args.pair.p < size x.pattern) (sym c.new-known.ensures) c.requires.placed.first

pub own_line-requires-clause-r_in : goal.own_line-requires-clause-r_in
own_line-requires-clause-r_in g c = subst (λ (x : Problem). c.args.pair.r < size x.pattern) (sym c.new-known.ensures) c.requires.placed.second

pub own_line-requires-clause-t_in : goal.own_line-requires-clause-t_in
own_line-requires-clause-t_in g c = subst (λ (x : Problem). c.args.pair.t < size x.target) (sym c.new-known.ensures) c.requires.placed.place

pub meeting_of-meeting-requires-clause-p_in : goal.meeting_of-meeting-requires-clause-p_in
meeting_of-meeting-requires-clause-p_in g c = subst (λ (x : Problem). c.args.pair.p < size x.pattern) (sym c.new-known.ensures) c.requires.placed.first

pub meeting_of-meeting-requires-clause-r_in : goal.meeting_of-meeting-requires-clause-r_in
meeting_of-meeting-requires-clause-r_in g c = subst (λ (x : Problem). c.args.pair.r < size x.pattern) (sym c.new-known.ensures) c.requires.placed.second

pub meeting_of-meeting-requires-clause-others : goal.meeting_of-meeting-requires-clause-others
meeting_of-meeting-requires-clause-others g c = c.requires.placed.others

pub alone-requires-clause-placed : goal.alone-requires-clause-placed
alone-requires-clause-placed g c = subst (λ (x : Problem). IsPlace x c.args.pair.p c.args.pair.t c.args.pair.r) (sym c.new-known.ensures) c.requires.placed

pub alone-requires-clause-meets : goal.alone-requires-clause-meets
alone-requires-clause-meets g c = c.meeting_of-meeting.ensures

pub keep_edge_row-requires-clause-meets : goal.keep_edge_row-requires-clause-meets
keep_edge_row-requires-clause-meets g c = c.meeting_of-meeting.ensures

pub keep_edge_row-requires-clause-placed : goal.keep_edge_row-requires-clause-placed
keep_edge_row-requires-clause-placed g c = subst (λ (x : Problem). IsPlace x c.args.pair.p c.args.pair.t c.args.pair.r) (sym c.new-known.ensures) c.requires.placed

pub asked_of-requires-clause-out : goal.asked_of-requires-clause-out
asked_of-requires-clause-out g c = c.new-known.ensures

pub asked_of-requires-clause-back : goal.asked_of-requires-clause-back
asked_of-requires-clause-back g c = c.new-back.ensures

pub asked_of-requires-clause-p_in : goal.asked_of-requires-clause-p_in
asked_of-requires-clause-p_in g c = c.requires.placed.first

pub asked_of-requires-clause-r_in : goal.asked_of-requires-clause-r_in
asked_of-requires-clause-r_in g c = c.requires.placed.second

pub asked_of-requires-clause-others : goal.asked_of-requires-clause-others
asked_of-requires-clause-others g c = c.requires.placed.others

pub line_there-requires-clause-placed : goal.line_there-requires-clause-placed
line_there-requires-clause-placed g c = subst (λ (x : Problem). IsPlace x c.args.pair.p c.args.pair.t c.args.pair.r) (sym c.new-known.ensures) c.requires.placed

pub row_line_with-requires-clause-encoding : goal.row_line_with-requires-clause-encoding
row_line_with-requires-clause-encoding g c = c.requires.encoding

pub row_line_with-requires-clause-placed : goal.row_line_with-requires-clause-placed
row_line_with-requires-clause-placed g c = c.requires.placed
