-- What an answer unfolds to compute the texts of a made case, the records of them, and the readers on them.
use Rattle.std.specs.Prelude.{⊤}
use Rattle.std.specs.Fmt.{digits}
use Rattle.big_case.specs.Case as made
use Rattle.big_case.specs.Rest as made_rest
use Rattle.case_rules.specs.CaseProject as project
use Rattle.case_rules.specs.CaseTable as table
use Rattle.table_members.specs.Forms as forms
use Rattle.table_members.specs.Json as json
use Rattle.ioc_text.specs.Lines as lines
use Rattle.res_model.specs.Numbers as numbers
use Rattle.ioc_project.specs.Project as project_reader
use Rattle.res_model.specs.Power as power
use Rattle.res_model.specs.Signals as signals
use Rattle.mcu_tables.specs.Table as table_reader
use Rattle.res_model.specs.PinNames as pin_names

-- the text of the table
unfoldable pub table_text_on_literals : ⊤
unfolding digits made.joined made.pin made.signal_name made.head made.listed_pin made.last_pins made.row made.two_rows made.before_name made.before_rows made.signal_row made.moving_signal made.last_signals made.rest made_rest.oscillator made_rest.domains made_rest.limits made_rest.scales made_rest.flash made_rest.start
table_text_on_literals = tt

-- the text of the project
unfoldable pub project_text_on_literals : ⊤
unfolding digits made.joined made.pin made.signal_name made.part made.pin_line made.signal_line made.placed made.placed_signal made.clock_pins made.placed_output made.project_text made_rest.clock_keys
project_text_on_literals = tt

-- the record of the table
unfoldable pub table_on_literals : ⊤
unfolding digits made.pin made.signal_name table.listed table.numbered_pin table.named_pin table.pins table.signal table.alt table.osc table.at_either table.moving table.needed table.usb table.others table.signals table.ip table.clock table.limits table.scales table.flash table.defaults table.table_for
table_on_literals = tt

-- the lines of the project
unfoldable pub lines_on_literals : ⊤
unfolding digits made.pin made.signal_name project.line project.two_lines project.all_lines project.moving_lines project.output_lines project.part_lines project.clock_pin_lines project.clock_lines project.case_lines
lines_on_literals = tt

-- the record of the project
unfoldable pub project_on_literals : ⊤
unfolding digits made.signal_name table.listed project.at_home project.moving project.output project.needed project.clock_signals project.case_signals project.home project.case_homes project.case_project
project_on_literals = tt

-- the reader of tables, from a JSON value on
unfoldable pub table_reader_on_literals : ⊤
unfolding digits json.inside json.entries json.two json.is_word json.word forms.text forms.flag forms.object forms.object_if_there forms.number_within forms.number_among forms.pair_within forms.counted forms.list forms.any_text forms.distinct_text forms.above forms.next_among forms.some_among forms.one_among pin_names.pin_number pin_names.spot table_reader.pin pin_names.place table_reader.role_of table_reader.use_form table_reader.pin_named table_reader.alt_row table_reader.pin_row table_reader.no_rows table_reader.rows table_reader.real_name table_reader.signal_name table_reader.some_text table_reader.signal table_reader.need48_of table_reader.clock48_form table_reader.ip_name table_reader.ip table_reader.steps table_reader.clock table_reader.limits table_reader.over_form table_reader.some_over table_reader.over table_reader.all_limits table_reader.scale table_reader.flash_from table_reader.flash_to table_reader.flash_range table_reader.source_of table_reader.pll_source_of table_reader.source_form table_reader.pll_source_form table_reader.default_sources table_reader.default_factors table_reader.default_buses table_reader.defaults power.speeds_at table_reader.reset_fault table_reader.legal table_reader.hse_names table_reader.supply table_reader.table
table_reader_on_literals = tt

-- the reader of lines
unfoldable pub lines_reader_on_literals : ⊤
unfolding digits numbers.number_of lines.ioc_of lines.with_line lines.line_at lines.line_of lines.is_named lines.is_pin_key lines.is_clock_key lines.is_single_key lines.pin_number lines.undone lines.undone_from lines.equals_at lines.equals_from
lines_reader_on_literals = tt

-- the reader of projects, from lines on
unfoldable pub project_reader_on_literals : ⊤
unfolding digits made.needs numbers.number_of numbers.number_up_to lines.line_at lines.pin_number signals.signal_named project_reader.project_of project_reader.in_domains project_reader.homes_of project_reader.hse_of project_reader.m_home project_reader.n_home project_reader.q_home project_reader.p_home project_reader.src_home project_reader.psrc_home project_reader.hpre_home project_reader.ppre1_home project_reader.ppre2_home project_reader.few project_reader.need_of project_reader.mark_of project_reader.is_mark project_reader.with_pin project_reader.signal_of project_reader.is_misplaced project_reader.place_for project_reader.is_taken project_reader.place_of project_reader.pin_lines project_reader.kept_of project_reader.part_of project_reader.pll_source_of project_reader.system_source_of project_reader.number_after project_reader.hertz_of project_reader.speed_of project_reader.pull_of
project_reader_on_literals = tt
