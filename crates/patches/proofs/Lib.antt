pub mod Laying
pub mod PatchExamples
