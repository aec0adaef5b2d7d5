use Rattle.rules.proofs.Laws.Sound.{sound_ranges}
use Rattle.box_hearing.specs.Known.{row_8, row_9, row_10, no_row}
use Rattle.box_hearing.proofs.hearing.Goals as goal

pub read-message-requires : goal.read-message-requires
read-message-requires c = ((sound_ranges _ c.requires.is_sound).high, c.requires.form)

pub matrix_fails-requires : goal.matrix_fails-requires
matrix_fails-requires c = sound_ranges _ c.requires.is_sound

pub exponents_keep-requires : goal.exponents_keep-requires
exponents_keep-requires c = sound_ranges _ c.requires.is_sound

pub returns-then-matrix_fails : goal.returns-then-matrix_fails
returns-then-matrix_fails c = row_8 _ _ _ c.requires.form (cc)

pub returns-then-not-exponents_keep : goal.returns-then-not-exponents_keep
returns-then-not-exponents_keep c = row_9 _ _ _ c.requires.form (cc) (cc)

pub returns-then-not-checks_out : goal.returns-then-not-checks_out
returns-then-not-checks_out c = row_10 _ _ _ c.requires.form (cc) (cc) (cc)

pub returns : goal.returns
returns c = no_row _ _ _ c.requires.form (cc) (cc) (cc)
