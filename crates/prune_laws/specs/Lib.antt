pub mod PruneLaws
