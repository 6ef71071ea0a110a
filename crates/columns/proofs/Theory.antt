-- The theory, put together.
use Rattle.arithmetic.specs.Fields.{Field, Lawful}
use Rattle.columns.specs.Factors.{Packed, Valid}
use Rattle.columns.specs.Theory.{FactorsDecide, Theory}
use Rattle.columns.proofs.Leads.{lead_finds}
use Rattle.columns.proofs.Swaps.{swaps_undone, swaps_redone}
use Rattle.columns.proofs.Alternatives.{either, never_both}
use Rattle.columns.proofs.Dimension.{more_depend, independent_no_more, selection_no_longer, selection_independent}
use Rattle.columns.proofs.Steps.{solved_is_less_the_sum, worked_by_the_workings}
use Rattle.columns.proofs.Eliminations.{left_is_less_the_sum}
use Rattle.columns.proofs.Factors.{unit_lower, valid_upper, rebuilt_swapped, combination_ends, alike_valid, alike_rebuilt}
use Rattle.columns.proofs.Factors.{rebuilt_independent, combination_exactly, rest_zero_combines, combination_unique}
use Rattle.columns.proofs.Takings.{valid_extended, rebuilt_old, rebuilt_new, worked_advanced}
use Rattle.columns.proofs.Motions.{motion_moves, assignment_meets, assignment_ends, assignment_unique}
use Rattle.columns.proofs.Triangles.{determinant_by_factors}

module _ {K : Type 0} (F : Field K) (W : Lawful F) where
  factors_decide : (s : Packed K) → Valid F s → FactorsDecide F s
  factors_decide s v = record {
    lower_unit = unit_lower F s;
    upper_diagonal = valid_upper F s v;
    product = rebuilt_swapped F s;
    independent = rebuilt_independent F W s v;
    combination_exactly_if_rest_zero = combination_exactly F W s v;
    combination_by_back_substitution = rest_zero_combines F W s v;
    combination_unique = combination_unique F W s v;
    combination_ends = combination_ends F s;
    else_motion = motion_moves F W s v;
    assignment_meets = assignment_meets F W s v;
    assignment_ends = assignment_ends F W s v;
    assignment_unique = assignment_unique F W s v;
    determinant_by_factors = determinant_by_factors F W s v;
  }

  pub theory : Theory F
  theory = record {
    left_is_less_the_sum = left_is_less_the_sum F W;
    solved_is_less_the_sum = solved_is_less_the_sum F W;
    worked_by_the_workings = worked_by_the_workings F W;
    lead_is_first = lead_finds F W;
    swaps_undo = record { undone = swaps_undone; redone = swaps_redone };
    columns_have_dimension = record {
      more_depend = more_depend F W;
      independent_no_more = independent_no_more F W;
      selection_no_longer = selection_no_longer F W;
      selection_independent = selection_independent F W;
    };
    one_of_two = record { either = either F W; never_both = never_both F W };
    factors_decide = factors_decide;
    taking = λ s b q v l h. record {
      valid = valid_extended F W s b q v l h;
      old = rebuilt_old F W s b q;
      new = rebuilt_new F W s b q h;
      goes_on = worked_advanced F W s b q;
    };
    only_stored_counts = λ s u e v. record { valid = alike_valid F s u e v; same_columns = alike_rebuilt F s u e v };
  }
