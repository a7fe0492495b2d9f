use Rattle.std.proofs.Common.{refl, sym, ◌∙◌, arith}
use Rattle.std.proofs.lemmas.Bool.{false≢true}
use Rattle.recorder.proofs.Guesses.{guesses_may, guesses_same}
use Rattle.propagation.specs.Propagation.{Sweeps}
use Rattle.propagation.proofs.Reasons.{leaves_swept}
use Rattle.propagation.proofs.Visits.{sweeps_taken, sweeps_free}
use Rattle.propagation.proofs.removal.keep_consistent.Goals as goal

-- where they are not asked even that, nothing leaves
pub returns-then-not-is_apart-clause-sweeps : goal.returns-then-not-is_apart-clause-sweeps
returns-then-not-is_apart-clause-sweeps g c =
    sweeps_free _ _ _ _ _ _ c.requires.flagged.bounded (λ u. c.is_free.ensures c.if-is_free.true u (λ two. absurd (false≢true (sym c.if-not-is_apart.true ∙ (c.is_apart.ensures ∙ two)))))

pub returns-then-not-is_apart-clause-told : goal.returns-then-not-is_apart-clause-told
returns-then-not-is_apart-clause-told g c s t = t

pub returns-then-not-is_apart-clause-guesses : goal.returns-then-not-is_apart-clause-guesses
returns-then-not-is_apart-clause-guesses g c = guesses_same _ _ refl

-- what has left where the two are asked nothing but distinct images
swept : (g : _) (c : goal.After-tell g) → let at = c.args.at.now in Sweeps c.take_value-some.result at.problem c.args.d.now c.args.waiting.now c.take_value-some.new.d c.take_value-some.new.waiting at.vertex at.value c.args.r
swept g c =
    sweeps_taken _ _ _ _ _ _ _ _ _ c.requires.flagged.is_of.values_is c.requires.meets.p_in c.requires.meets.r_in c.requires.meets.apart (omega (arith, c.requires.flagged.long, c.requires.meets.r_in)) c.requires.meets.single
    (rw c.value-t.ensures at c.take_value-some.ensures.keeps) (rw c.value-t.ensures at c.take_value-some.ensures.taken) c.take_value-some.ensures.bounded (sym c.is_apart.ensures ∙ c.if-not-is_apart.false) (c.is_free.ensures c.if-is_free.true) c.requires.meets.undecided

pub returns-then-is_free-clause-sweeps : goal.returns-then-is_free-clause-sweeps
returns-then-is_free-clause-sweeps g c = swept g c

pub returns-then-is_free-clause-told : goal.returns-then-is_free-clause-told
returns-then-is_free-clause-told g c s t =
    let at = c.args.at.now in
    (rw (c.vertex.ensures, c.value-t.ensures) at c.tell.ensures.told) _ s c.args.d.now
    (leaves_swept _ _ s c.args.d.now _ _ _ at.vertex at.value c.args.r _ c.requires.meets.p_in c.requires.meets.t_in c.requires.meets.r_in c.requires.meets.apart c.requires.meets.single c.mark-from.ensures.length
    (swept g c))
    t

pub returns-then-is_free-clause-guesses : goal.returns-then-is_free-clause-guesses
returns-then-is_free-clause-guesses g c = guesses_may _ _ _ (λ is. is) c.tell.ensures.took

pub returns-clause-told : goal.returns-clause-told
returns-clause-told g c s t =
    let at = c.args.at.now in
    (rw (c.vertex.ensures, c.value-t.ensures) at c.tell-2.ensures.told) _ s c.args.d.now
    (leaves_swept _ _ s c.args.d.now _ _ _ at.vertex at.value c.args.r _ c.requires.meets.p_in c.requires.meets.t_in c.requires.meets.r_in c.requires.meets.apart c.requires.meets.single c.mark-from.ensures.length
    c.take_inconsistent-some.ensures)
    t

pub returns-clause-guesses : goal.returns-clause-guesses
returns-clause-guesses g c = guesses_may _ _ _ (λ is. is) c.tell-2.ensures.took
