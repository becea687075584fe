pub mod NumberLaws
mod TimeLaws
