-- All definitions of `rules` at once: a statement about closed values that says `unfolding computed` is decided by computing.
-- Assumes nothing.
use Rattle.folds.specs.Below.{all_below, any_below, first_from, count_below, sum_below, prod_below}
use Rattle.folds.specs.Stores.{stores}
use Rattle.folds.specs.Runs.{gather}
use Rattle.algebra.specs.Residues.{primeb, inverse, inverse_by}
use Rattle.algebra.specs.Interpolation.{interpolate, others}
use Rattle.rules.specs.Numbers.{groups, group_of, has_order, logarithm, row_keeps, group_keeps, sizes_keep, is_box, numbers_keep, echo_quorum}
use Rattle.rules.specs.Matrices.{row, matrix}
use Rattle.rules.specs.Messages.{two_bytes, matrix_bytes, coefficient_bytes, polynomial_bytes, four_bytes, pair_bytes, tag_of, body_of, framed, bytes_of, whole_length, to_each, written, word, has_matrix, malformed, foreign, matrix_in, coefficients_in, polynomials_in, four_in, pair_in, message_in}
use Rattle.rules.specs.Dealing.{from_coins, f_of, f'_of, coins_keep, committed, commitment, along_y, along_x, polynomials_of, value_at, in_group, matrix_passes, coefficients_below, polynomials_below, four_below, pair_below, opens, l_equation, j_equation, polynomial_check, opened_at, α_equation, β_equation, point_check, σ_equation, share_check}
use Rattle.rules.specs.Record.{matrix_of, count_e, count_r, shares_kept, same_matrix, zero_slot, new_record, zero_record, setup_keeps, slot_below, exponents_below, matrices_differ, matrices_pass, marks_keep, places_keep, use_keeps, pair_keeps, recovery_keeps, dealt_keeps, entries_zero, sender_zero, unused_zero, sound}
use Rattle.rules.specs.Steps.{heard, points, share_points, through, pair_from, ready_four, echo_four, recovered_from, own_slot, free_slot, slot_for, opened, keeping, send_step, ready_sent, completing, completed, point_at, point_step, recovering, share_step, deal_step, recover_step}
use Rattle.rules.specs.Answers.{first_row, accepted, refused, outcome_of, answered, set_up_rows, set_up, call_rows, own_deal_rows, deal_rows, deal, own_recover_rows, recover_rows, recover, form_rows, turn_rows, hearing_rows, early_rows, deliver_rows, refusal_heard, deliver}
use Rattle.rules.specs.Text.{text, word_at, digits_end, digits_say, is_decimal, number_place, numbers_at, decimal}
use Rattle.rules.specs.Sheet.{sheet_set_up, sheet_matrix, next_line, line_place, said_at, sheet_shares, first_line_keeps, box_line_keeps, rest_keeps, verified_shares, box_lines, secret_line, no_secret_line, last_line, sheet_lines, body_printed, printed, page}

unfoldable pub computed : Unit {0}
unfolding all_below any_below first_from count_below sum_below prod_below stores gather primeb inverse inverse_by interpolate others groups group_of has_order logarithm row_keeps group_keeps sizes_keep is_box numbers_keep echo_quorum row matrix two_bytes matrix_bytes coefficient_bytes polynomial_bytes four_bytes pair_bytes tag_of body_of framed bytes_of whole_length to_each written word has_matrix malformed foreign matrix_in coefficients_in polynomials_in four_in pair_in message_in from_coins f_of f'_of coins_keep committed commitment along_y along_x polynomials_of value_at in_group matrix_passes coefficients_below polynomials_below four_below pair_below opens l_equation j_equation polynomial_check opened_at α_equation β_equation point_check σ_equation share_check matrix_of count_e count_r shares_kept same_matrix zero_slot new_record zero_record setup_keeps slot_below exponents_below matrices_differ matrices_pass marks_keep places_keep use_keeps pair_keeps recovery_keeps dealt_keeps entries_zero sender_zero unused_zero sound heard points share_points through pair_from ready_four echo_four recovered_from own_slot free_slot slot_for opened keeping send_step ready_sent completing completed point_at point_step recovering share_step deal_step recover_step first_row accepted refused outcome_of answered set_up_rows set_up call_rows own_deal_rows deal_rows deal own_recover_rows recover_rows recover form_rows turn_rows hearing_rows early_rows deliver_rows refusal_heard deliver text word_at digits_end digits_say is_decimal number_place numbers_at decimal sheet_set_up sheet_matrix next_line line_place said_at sheet_shares first_line_keeps box_line_keeps rest_keeps verified_shares box_lines secret_line no_secret_line last_line sheet_lines body_printed printed page
computed = tt
