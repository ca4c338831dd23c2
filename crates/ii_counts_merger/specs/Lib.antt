pub mod CountsSources
